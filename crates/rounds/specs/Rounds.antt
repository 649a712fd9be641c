-- One round (this project's profile): lanes, workers and the keeper have their turns, at once or in any order; then all
-- passes meet.
use Rattle.std.specs.Prelude.{◌≡◌, ◌≢◌, ◌⊎◌, ◌+◌, ◌-◌, ◌^◌, ◌++◌, ℕ, min, All, Bool, true, false, []}
use Rattle.atomic_table.specs.Seated.{TableId}
use Rattle.mem_queue.specs.BoundedQueue.{BoundedQueue}
use Rattle.settle_box.specs.BoundedBox.{BoundedBox}
use Rattle.settle_box.specs.Senders.{posts_of}
use Rattle.lanes.specs.declared.run.When.{When}
use Rattle.rounds.specs.Answer.{have_others_moved, round_of}
use Rattle.rounds.specs.Crewed.{carriers_passes, lanes_passes, lanings}
use Rattle.rounds.specs.Due.{IsDue}
use Rattle.rounds.specs.KeeperTurns.{begun_stored}
use Rattle.rounds.specs.Meeting.{HaveAllPasses, HaveMet}
use Rattle.rounds.specs.Pairs.{Pairs}
use Rattle.rounds.specs.Passes.{senders}
use Rattle.rounds.specs.Running.{CarrierHasRun, IsLaneReady, LaneHasRun, StoringHasRun}
use Rattle.rounds.specs.Words.{DiskWords, LinkWords, TailWords, WireWords, Words}
use Rattle.rounds.specs.Crewing.{Crewing, crew_of}
use Rattle.rounds.specs.declared.answer.Round.{Round}
use Rattle.rounds.specs.declared.crew.Crew.{Crew}

-- there are lanes and workers, they have all passes, and each is ready; the store may be closed
pub record IsAble {T W L D : Type 0} (tails : TailWords T) (queue desk : TableId) (crew : Crewing T W L D) : Type 0 where
  pub some_lanes : crew.lanes.items ≢ []
  pub some_carriers : crew.carriers.items ≢ []
  pub have : HaveAllPasses queue desk (lanings crew.lanes.items) crew.carriers.items
  pub lanes : All (IsLaneReady tails queue desk) (lanings crew.lanes.items)
  pub pass : crew.storing.keeper.now.pass.desk ≡ desk

-- and the store is open, so a round may follow
pub record IsReady {T W L D : Type 0} (tails : TailWords T) (queue desk : TableId) (crew : Crewing T W L D) : Type 0 where
  pub able : IsAble tails queue desk crew
  pub is_open : crew.storing.keeper.now.store.closed ≡ false

-- the keeper had its turns, since it was due or nothing else moved
pub record KeeperHad {T W L D : Type 0} (disks : DiskWords D) (moved : Bool) (old new : Crewing T W L D) : Type 0 where
  pub why : IsDue old.pace ⊎ (moved ≡ false)
  pub ran : StoringHasRun disks old.storing new.storing
  pub without : new.pace.without ≡ 0

-- the keeper had none
pub record KeeperRested {T W L D : Type 0} (moved : Bool) (old new : Crewing T W L D) : Type 0 where
  pub why : (¬ (IsDue old.pace)) × (moved ≡ true)
  pub same : new.storing ≡ record old.storing { stored = begun_stored }
  pub without : new.pace.without ≡ min (old.pace.without + 1) (2 ^ 32 - 1)

-- lanes and workers had their turns
pub record OthersRan {T W L : Type 0} (tails : TailWords T) (links : LinkWords L) (wires : WireWords W) (queue : BoundedQueue) (desk : BoundedBox) (when : When) (old new : Crew T W L) : Type 0 where
  pub lanes : Pairs (LaneHasRun tails queue.capacity desk.capacity when) (lanings old.lanes.items) (lanings new.lanes.items)
  pub carriers : Pairs (CarrierHasRun links wires desk.capacity when.now) old.carriers.items new.carriers.items

-- and the keeper, if it had to
pub record AllRan {T W L D : Type 0} (words : Words T W L D) (queue : BoundedQueue) (desk : BoundedBox) (when : When) (old new : Crewing T W L D) : Type 0 where
  pub others : OthersRan words.tails words.links words.wires queue desk when (crew_of old) (crew_of new)
  pub keeper : let moved = have_others_moved (lanings new.lanes.items) new.carriers.items in
      KeeperHad words.disks moved old new ⊎ KeeperRested moved old new
  pub room : new.pace.room ≡ old.pace.room

-- there are lanes and workers, and all passes may meet
pub record CanMeet {T W L D : Type 0} (queue desk : TableId) (crew : Crewing T W L D) : Type 0 where
  pub some_lanes : crew.lanes.items ≢ []
  pub some_carriers : crew.carriers.items ≢ []
  pub have : HaveAllPasses queue desk (lanings crew.lanes.items) crew.carriers.items
  pub pass : crew.storing.keeper.now.pass.desk ≡ desk

-- how many notes were posted in all; the count saturates at 2^64 - 1
abbrev pub posted_in : {T W L : Type 0} → Crew T W L → ℕ
posted_in crew = min (posts_of (senders (lanes_passes (lanings crew.lanes.items)) ++ senders (carriers_passes crew.carriers.items))) (2 ^ 64 - 1)

-- how many notes the box holds as the passes meet: all that were posted but for those that were collected
abbrev pub boxed_in : {T W L D : Type 0} → Crewing T W L D → ℕ
boxed_in crew = posted_in (crew_of crew) - crew.storing.keeper.now.collected

-- the passes met, and nothing else changed but what is known of the box
pub record MeetsIn {T W L D : Type 0} (queue desk : TableId) (old new : Crewing T W L D) : Type 0 where
  pub met : HaveMet queue desk old.storing.keeper.now.pass.got (lanings old.lanes.items) (lanings new.lanes.items) old.carriers.items new.carriers.items
  pub storing : new.storing ≡ old.storing
  pub room : new.pace.room ≡ old.pace.room
  pub boxed : new.pace.boxed ≡ boxed_in old
  pub posted : new.pace.posted ≡ posted_in (crew_of old)
  pub without : new.pace.without ≡ old.pace.without

-- the keeper had its turns, since nothing else had moved
pub record StoresNow {T W L D : Type 0} (disks : DiskWords D) (moved : Bool) (old new : Crewing T W L D) : Type 0 where
  pub why : moved ≡ false
  pub ran : StoringHasRun disks old.storing new.storing
  pub without : new.pace.without ≡ 0

-- the keeper had none, since something had
pub record RestsNow {T W L D : Type 0} (moved : Bool) (old new : Crewing T W L D) : Type 0 where
  pub why : moved ≡ true
  pub same : new.storing ≡ record old.storing { stored = begun_stored }
  pub without : new.pace.without ≡ min (old.pace.without + 1) (2 ^ 32 - 1)

-- the keeper had its turns if nothing else had moved
pub record StoresWhereStill {T W L D : Type 0} (disks : DiskWords D) (old new : Crewing T W L D) : Type 0 where
  pub storing : let moved = have_others_moved (lanings old.lanes.items) old.carriers.items in
      StoresNow disks moved old new ⊎ RestsNow moved old new
  pub others : new ≡ record old { storing = new.storing; pace = record old.pace { without = new.pace.without } }

-- all had their turns, and then the passes met
pub record Rounds {T W L D : Type 0} (words : Words T W L D) (queue : BoundedQueue) (desk : BoundedBox) (when : When) (old new : Crewing T W L D) (round : Round) : Type 0 where
  pub mid : Crewing T W L D
  pub ran : AllRan words queue desk when old mid
  pub meets : MeetsIn queue.id desk.id mid new
  pub answer : round ≡ round_of (lanings new.lanes.items) new.carriers.items new.storing.stored
