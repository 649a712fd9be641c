-- What it means that a round moved (this project's profile): something was read, reported, found, handed on, sent, received or stored;
-- and that it did not: no turn of any of them did.
use Rattle.std.specs.Prelude.{◌≡◌, ◌⊎◌, ℕ, true, false}
use Rattle.std.specs.List.{AllByRecursion}
use Rattle.batch_worker.specs.declared.answer.WorkerTurn.{WorkerTurn}
use Rattle.harvester.specs.declared.turn.Turn.{Turn}
use Rattle.harvester.specs.declared.turn.Turn.TheVariants.{Issued, Passed, More, AtEnd, NewLife, Changed, EpochsOut, ReadFault, NoMemory}
use Rattle.keeper.specs.declared.turn.KeeperTurn.{KeeperTurn}
use Rattle.lanes.specs.Laning.{Laning}
use Rattle.lanes.specs.Running.{LaneRuns}
use Rattle.lanes.specs.Step.{Step}
use Rattle.lanes.specs.Visiting.{AreVisited}
use Rattle.lanes.specs.declared.given.Given.TheVariants.{Nothing}
use Rattle.lanes.specs.declared.run.When.{When}
use Rattle.mem_queue.specs.BoundedQueue.{BoundedQueue}
use Rattle.settle_box.specs.BoundedBox.{BoundedBox}
use Rattle.wire_base.specs.declared.numbers.Moment.{Moment}
use Rattle.rounds.specs.CarrierTurns.{Carries, IsWork}
use Rattle.rounds.specs.Crewed.{bare_carriers, bare_lanes, lanings}
use Rattle.rounds.specs.KeeperTurns.{IsKeeping, KeeperRan}
use Rattle.rounds.specs.Pairs.{Pairs, SomeOf, SomePair}
use Rattle.rounds.specs.Words.{DiskWords, LinkWords, TailWords, WireWords, Words}
use Rattle.rounds.specs.declared.carrier.Carrier.{Carrier}
use Rattle.rounds.specs.Crewing.{Crewing}
use Rattle.rounds.specs.declared.storing.Storing.{Storing}

-- ---- lanes

-- a turn of a file read bytes, reported a span or found a new life, be it another file's
abbrev pub IsMoving : Turn → Type 0
IsMoving (Issued parcel) = Unit {0}
IsMoving (Passed span rule) = Unit {0}
IsMoving More = Unit {0}
IsMoving AtEnd = ⊥
IsMoving (NewLife epoch) = Unit {0}
IsMoving Changed = Unit {0}
IsMoving EpochsOut = Unit {0}
IsMoving ReadFault = ⊥
IsMoving NoMemory = ⊥

-- what the lane held went through, or a turn of one of its files moved
pub record LaneMoved {T : Type 0} (tails : TailWords T) (queue box : ℕ) (when : When) (old new : Laning T) : Type 0 where
  pub runs : LaneRuns tails.numbers tails.told tails.faults queue box when old new
  pub moved : (runs.moved ≡ true) ⊎ SomeOf (λ (s : Step). IsMoving s.turn) runs.keeps.steps

-- what it held, if something was, was refused, and no turn of its files moved
pub record LaneWasStill {T : Type 0} (tails : TailWords T) (queue box : ℕ) (when : When) (old new : Laning T) : Type 0 where
  pub runs : LaneRuns tails.numbers tails.told tails.faults queue box when old new
  pub not_moved : runs.moved ≡ false
  pub each : AllByRecursion (λ (s : Step). ¬ (IsMoving s.turn)) runs.keeps.steps

-- if it holds nothing then, none of its files was passed over
pub record LaneVisited {T : Type 0} (tails : TailWords T) (queue box : ℕ) (when : When) (old new : Laning T) : Type 0 where
  pub runs : LaneRuns tails.numbers tails.told tails.faults queue box when old new
  pub each : new.held ≡ Nothing → AreVisited tails.told runs.keeps.steps old.harvesters new.harvesters

-- ---- workers

-- a turn worked
pub record CarrierMoved {W L : Type 0} (links : LinkWords L) (wires : WireWords W) (box : ℕ) (now : Moment) (old new : Carrier W L) : Type 0 where
  pub carries : Carries links wires box now old new
  pub moved : SomeOf IsWork carries.turns

-- no turn did
pub record CarrierWasStill {W L : Type 0} (links : LinkWords L) (wires : WireWords W) (box : ℕ) (now : Moment) (old new : Carrier W L) : Type 0 where
  pub carries : Carries links wires box now old new
  pub each : AllByRecursion (λ (t : WorkerTurn). ¬ (IsWork t)) carries.turns

-- ---- the keeper

-- a turn kept something
pub record StoringMoved {D : Type 0} (disks : DiskWords D) (old new : Storing D) : Type 0 where
  pub ran : KeeperRan disks old new
  pub moved : SomeOf IsKeeping ran.turns

-- it had turns, and none did
pub record StoringWasStill {D : Type 0} (disks : DiskWords D) (old new : Storing D) : Type 0 where
  pub ran : KeeperRan disks old new
  pub each : AllByRecursion (λ (t : KeeperTurn). ¬ (IsKeeping t)) ran.turns

-- ---- all of them, up to the place where their passes met

-- lanes, workers and the keeper as their passes met: but for these they are so afterwards
pub record IsAsMet {T W L D : Type 0} (mid new : Crewing T W L D) : Type 0 where
  pub lanes : bare_lanes (lanings new.lanes.items) ≡ bare_lanes (lanings mid.lanes.items)
  pub carriers : bare_carriers new.carriers.items ≡ bare_carriers mid.carriers.items
  pub storing : new.storing ≡ mid.storing

pub record HaveMoved {T W L D : Type 0} (words : Words T W L D) (queue : BoundedQueue) (desk : BoundedBox) (when : When) (old new : Crewing T W L D) : Type 0 where
  pub mid : Crewing T W L D
  pub met : IsAsMet mid new
  pub some : SomePair (LaneMoved words.tails queue.capacity desk.capacity when) (lanings old.lanes.items) (lanings mid.lanes.items)
      ⊎ (SomePair (CarrierMoved words.links words.wires desk.capacity when.now) old.carriers.items mid.carriers.items
      ⊎ StoringMoved words.disks old.storing mid.storing)

pub record WereStill {T W L D : Type 0} (words : Words T W L D) (queue : BoundedQueue) (desk : BoundedBox) (when : When) (old new : Crewing T W L D) : Type 0 where
  pub mid : Crewing T W L D
  pub met : IsAsMet mid new
  pub lanes : Pairs (LaneWasStill words.tails queue.capacity desk.capacity when) (lanings old.lanes.items) (lanings mid.lanes.items)
  pub carriers : Pairs (CarrierWasStill words.links words.wires desk.capacity when.now) old.carriers.items mid.carriers.items
  pub storing : StoringWasStill words.disks old.storing mid.storing

pub record HaveVisited {T W L D : Type 0} (words : Words T W L D) (queue : BoundedQueue) (desk : BoundedBox) (when : When) (old new : Crewing T W L D) : Type 0 where
  pub mid : Crewing T W L D
  pub met : IsAsMet mid new
  pub lanes : Pairs (LaneVisited words.tails queue.capacity desk.capacity when) (lanings old.lanes.items) (lanings mid.lanes.items)
