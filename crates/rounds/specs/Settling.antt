-- The last steps of a run (this project's profile): what lanes and workers still hold of notes is posted, the keeper has its
-- turns, and then all passes meet. Nothing is read, taken or sent any more.
use Rattle.std.specs.Prelude.{◌≡◌, ◌⊎◌, ℕ, false, List, [], ◌++◌}
use Rattle.atomic_table.specs.Seated.{TableId}
use Rattle.batch_worker.specs.Held.{owed_by}
use Rattle.batch_worker.specs.Keeping.{SameMoments, WorkerGoes, with_posted}
use Rattle.batch_worker.specs.Seen.{Seen}
use Rattle.batch_worker.specs.Steps.{FoundFull, PostsOf}
use Rattle.mem_queue.specs.BoundedQueue.{BoundedQueue}
use Rattle.settle_box.specs.BoundedBox.{BoundedBox}
use Rattle.settle_box.specs.Senders.{notes}
use Rattle.ship_core.specs.Orderly.{AreOrderly}
use Rattle.wire_base.specs.declared.note.Note.{Note}
use Rattle.wire_base.specs.declared.parcel.Parcel.{Parcel}
use Rattle.keeper.specs.Collecting.{Collects}
use Rattle.keeper.specs.Storing.{IsStoredInFull, Stores}
use Rattle.lanes.specs.Giving.{IsInRange, notes_in, parcels_in}
use Rattle.lanes.specs.Laning.{Laning}
use Rattle.rounds.specs.Answer.{of_stored}
use Rattle.rounds.specs.Books.{AreBooked, ArePlaced, Heard, Told, told_on}
use Rattle.rounds.specs.Causes.{SettlingCauses}
use Rattle.rounds.specs.Crewed.{lanings}
use Rattle.rounds.specs.Crewing.{Crewing, crew_of}
use Rattle.rounds.specs.Images.{AreAtRest, ImagesAreFronts}
use Rattle.rounds.specs.KeeperTurns.{SameObjects, StillTell}
use Rattle.rounds.specs.Pairs.{Pairs}
use Rattle.rounds.specs.Placed.{GoesOn}
use Rattle.rounds.specs.Rounds.{IsAble, IsReady, MeetsIn, posted_in}
use Rattle.rounds.specs.Running.{StoringHasRun}
use Rattle.rounds.specs.Staying.{AreAsMany, begins_of}
use Rattle.rounds.specs.Words.{LinkWords, Words}
use Rattle.rounds.specs.declared.answer.Round.{Round}
use Rattle.rounds.specs.declared.carrier.Carrier.{Carrier}
use Rattle.rounds.specs.declared.crew.Crew.{Crew}

-- ---- one by one

-- the note that a lane holds, if it holds one, may be posted
pub record CanHandOn {T : Type 0} (desk : TableId) (lane : Laning T) : Type 0 where
  pub post : PostsOf desk lane.post
  pub in_range : IsInRange lane.held

-- the note was posted, if there was one; it is held on only if the box was full
pub record LaneHandedOn {T : Type 0} (box : ℕ) (old new : Laning T) : Type 0 where
  pub posted : List Note
  pub notes_are : notes_in old.held ≡ posted ++ notes_in new.held
  pub parcels_are : parcels_in new.held ≡ parcels_in old.held
  pub is : new ≡ record old { post = with_posted old.post posted; held = new.held }
  pub in_range : IsInRange old.held → IsInRange new.held
  pub left : (notes_in new.held ≡ []) ⊎ FoundFull box new.post

-- the notes that a worker owed were posted; some are left only if the box was full. Its wire is not touched, nor the moments of its windows, nor how often it
-- failed
pub record CarrierHandedOn {W L : Type 0} (links : LinkWords L) (box : ℕ) (old new : Carrier W L) : Type 0 where
  pub goes : (seen : Seen) → WorkerGoes links.told seen seen old.worker new.worker
  pub moments : SameMoments old.worker new.worker
  pub failures : new.worker.failures ≡ old.worker.failures
  pub others : new ≡ record old { worker = new.worker }
  pub left : (owed_by new.worker ≡ []) ⊎ FoundFull box new.worker.post

-- ---- all

pub record HaveHandedOn {T W L : Type 0} (links : LinkWords L) (box : ℕ) (old new : Crew T W L) : Type 0 where
  pub lanes : Pairs (LaneHandedOn box) (lanings old.lanes.items) (lanings new.lanes.items)
  pub carriers : Pairs (CarrierHandedOn links box) old.carriers.items new.carriers.items

-- lanes and workers handed on, then the keeper had its turns, and then the passes met
pub record Settles {T W L D : Type 0} (words : Words T W L D) (queue : BoundedQueue) (desk : BoundedBox) (old new : Crewing T W L D) (round : Round) : Type 0 where
  pub mid : Crewing T W L D
  pub handed : HaveHandedOn words.links desk.capacity (crew_of old) (crew_of mid)
  pub storing : StoringHasRun words.disks old.storing mid.storing
  pub room : mid.pace.room ≡ old.pace.room
  pub without : mid.pace.without ≡ 0
  pub meets : MeetsIn queue.id desk.id mid new
  pub answer : round ≡ of_stored new.storing.stored

-- ---- what it keeps

-- what is known of how many notes were posted is what the passes say
abbrev pub ArePostsCounted : {T W L : Type 0} → Crew T W L → Type 0
ArePostsCounted crew = crew.pace.posted ≡ posted_in crew

-- a lane's harvesters stay as they are, and what it holds to be sent
pub record KeepsFiles {T : Type 0} (old new : Laning T) : Type 0 where
  pub harvesters : new.harvesters ≡ old.harvesters
  pub parcels : parcels_in new.held ≡ parcels_in old.held
  pub spans : new.spans ≡ old.spans
  pub tally : new.tally ≡ old.tally

-- if all that was reported is booked before, it is booked afterwards, and each of it is in one place; nothing more is reported
pub record IsPlacedOnceSettled {T W L D : Type 0} (words : Words T W L D) (told : Told) (new : Crewing T W L D) : Type 0 where
  -- what was acknowledged by now
  pub acknowledged : List Heard
  pub acknowledged_more : Pairs GoesOn told.acknowledged acknowledged
  pub booked : AreBooked words.links words.wires (told_on told [] acknowledged) (lanings new.lanes.items) new.carriers.items
  -- what the queue and the box held as the passes met
  pub queued : List Parcel
  pub boxed : List Note
  pub placed : ArePlaced (told_on told [] acknowledged) (lanings new.lanes.items) new.carriers.items queued (notes new.storing.keeper.now.pass.got) boxed

pub record SettlingKeeps {T W L D : Type 0} (words : Words T W L D) (queue : BoundedQueue) (desk : BoundedBox) (old new : Crewing T W L D) (round : Round) : Type 0 where
  -- another may follow
  pub ready : round.memory ≡ false → round.disk ≡ false → IsReady words.tails queue.id desk.id new
  pub lanes : Pairs KeepsFiles (lanings old.lanes.items) (lanings new.lanes.items)
  -- each span is in one place, and nothing else is settled
  pub placed : (told : Told) → AreBooked words.links words.wires told (lanings old.lanes.items) old.carriers.items → IsPlacedOnceSettled words told new
  pub counted : ArePostsCounted (crew_of new)
  -- images are prefixes
  pub images : AreAtRest words.disks old.storing → AreOrderly new.storing.keeper.now.tracked.notes → ImagesAreFronts words.disks old.storing new.storing
  pub at_rest : round.memory ≡ false → round.disk ≡ false → AreAtRest words.disks old.storing → AreAtRest words.disks new.storing
  -- what was collected is noted, in order, or held
  pub collects : Collects old.storing.keeper.now new.storing.keeper.now
  -- whatever was found, lanes may be released, and workers and the keeper may end
  pub able : IsAble words.tails queue.id desk.id new
  -- what the store has is what was noted up to the last commit
  pub stored : Stores old.storing.keeper.now.tracked old.storing.keeper.now.store → Stores new.storing.keeper.now.tracked new.storing.keeper.now.store
  -- and nothing is left to store
  pub in_full : round.memory ≡ false → round.disk ≡ false → IsStoredInFull new.storing.keeper.now
  -- each answer has its cause
  pub causes : SettlingCauses words old new round
  -- as many lanes and workers
  pub as_many : AreAsMany old new
  -- each lane has its harvesters still, of the same slots
  pub slots : begins_of (lanings new.lanes.items) ≡ begins_of (lanings old.lanes.items)
  -- the areas are the same disks
  pub same_objects : SameObjects old.storing new.storing
  -- and if they reported what they hold, they report it still
  pub still_tell : StillTell words.disks.contents old.storing new.storing
