-- How a lane hands on what it was given (this project's profile).
use Rattle.std.specs.Prelude.{◌≡◌, ℕ, List, [], ◌∷◌, ◌++◌, Option, Some, None}
use Rattle.atomic_table.specs.Seated.{TableId}
use Rattle.batch_worker.specs.Keeping.{with_posted}
use Rattle.batch_worker.specs.Steps.{FoundFull as FoundBoxFull}
use Rattle.mem_queue.specs.Entries.{parcels}
use Rattle.mem_queue.specs.Known.{Known, known}
use Rattle.mem_queue.specs.Rule.{WasFull}
use Rattle.mem_queue.specs.declared.entry.Entry.{Entry}
use Rattle.settle_box.specs.Poster.{Poster}
use Rattle.wire_base.specs.declared.note.Note.{Note}
use Rattle.lanes.specs.Giving.{IsInRange, notes_in, parcels_in}
use Rattle.lanes.specs.Laning.{Laning}
use Rattle.lanes.specs.declared.given.Given.{Given}
use Rattle.lanes.specs.declared.given.Given.TheVariants as given

-- what puts is there, and of this queue
abbrev pub PutsOf : TableId → Option Known → Type 0
PutsOf queue None = ⊥
PutsOf queue (Some put) = put.queue ≡ queue

-- these were put after the others
abbrev pub with_put : Option Known → List Entry → Option Known
with_put None entries = None
with_put (Some put) entries = Some (known put.queue put.share (put.entries ++ entries))

-- the queue was full at a step of a call, in a state that its rule allows
abbrev pub FoundQueueFull : ℕ → Option Known → Type 0
FoundQueueFull capacity None = ⊥
FoundQueueFull capacity (Some put) = WasFull capacity put

-- what is held was refused: the queue or the box was full at a step of a call
abbrev pub WasRefused : ℕ → ℕ → Given → Option Known → Option Poster → Type 0
WasRefused queue box (given.Parcel parcel) put post = FoundQueueFull queue put
WasRefused queue box (given.Note note) put post = FoundBoxFull box post
WasRefused queue box given.Nothing put post = Unit {0}

-- what was given is put, posted or held
pub record HandsOn {T : Type 0} (what : Given) (old new : Laning T) : Type 0 where
  pub entries : List Entry
  pub posted : List Note
  pub parcels_are : parcels_in what ≡ parcels entries ++ parcels_in new.held
  pub notes_are : notes_in what ≡ posted ++ notes_in new.held
  pub in_range : IsInRange new.held
  pub put : new.put ≡ with_put old.put entries
  pub post : new.post ≡ with_posted old.post posted
  pub harvesters : new.harvesters ≡ old.harvesters
  pub spans : new.spans ≡ old.spans
  pub tally : new.tally ≡ old.tally

-- the note that was held is posted, if one was
abbrev pub posting : {T : Type 0} → Given → Laning T → Laning T
posting (given.Parcel parcel) lane = lane
posting (given.Note note) lane = record lane { post = with_posted lane.post (note ∷ []); held = given.Nothing }
posting given.Nothing lane = lane

abbrev pub after_posting : {T : Type 0} → Laning T → Laning T
after_posting lane = posting lane.held lane
