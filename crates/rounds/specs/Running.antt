-- What lanes and carriers are before a round, and what their turns of a round are (this project's profile).
use Rattle.std.specs.Prelude.{◌≡◌, ℕ, All, false}
use Rattle.atomic_table.specs.Seated.{TableId}
use Rattle.wire_base.specs.declared.numbers.Moment.{Moment}
use Rattle.lanes.specs.Giving.{IsInRange}
use Rattle.lanes.specs.Laning.{Laning}
use Rattle.lanes.specs.Running.{LaneRuns}
use Rattle.lanes.specs.Turned.{IsKnown}
use Rattle.lanes.specs.declared.run.When.{When}
use Rattle.rounds.specs.CarrierTurns.{Carries}
use Rattle.rounds.specs.Crewed.{carrier_passes, lane_passes}
use Rattle.rounds.specs.KeeperTurns.{KeeperRan}
use Rattle.rounds.specs.Passes.{AreOf}
use Rattle.rounds.specs.Words.{DiskWords, LinkWords, TailWords, WireWords}
use Rattle.rounds.specs.declared.carrier.Carrier.{Carrier}
use Rattle.rounds.specs.declared.storing.Storing.{Storing}

-- a lane has its passes, what it holds may be handed on, and of each harvester it is known what it reported
pub record IsLaneReady {T : Type 0} (tails : TailWords T) (queue desk : TableId) (lane : Laning T) : Type 0 where
  pub passes : AreOf queue desk (lane_passes lane)
  pub in_range : IsInRange lane.held
  pub known : All (IsKnown tails.numbers tails.told) lane.harvesters

abbrev pub IsCarrierReady : {W L : Type 0} → TableId → TableId → Carrier W L → Type 0
IsCarrierReady queue desk carrier = AreOf queue desk (carrier_passes carrier)

-- the keeper has its pass, and its store is open
pub record IsStoringReady {D : Type 0} (desk : TableId) (storing : Storing D) : Type 0 where
  pub pass : storing.keeper.now.pass.desk ≡ desk
  pub is_open : storing.keeper.now.store.closed ≡ false

-- ---- their turns, each under one name

unfoldable pub LaneHasRun : {T : Type 0} → TailWords T → ℕ → ℕ → When → Laning T → Laning T → Type 0
LaneHasRun tails queue box when old new = LaneRuns tails.numbers tails.told tails.faults queue box when old new

unfoldable pub CarrierHasRun : {W L : Type 0} → LinkWords L → WireWords W → ℕ → Moment → Carrier W L → Carrier W L → Type 0
CarrierHasRun links wires box now old new = Carries links wires box now old new

unfoldable pub StoringHasRun : {D : Type 0} → DiskWords D → Storing D → Storing D → Type 0
StoringHasRun disks old new = KeeperRan disks old new
