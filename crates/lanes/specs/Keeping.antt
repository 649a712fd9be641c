-- What the calls of a lane keep (this project's profile): what the turns of its harvesters gave is put or posted, or is held,
-- in order.
use Rattle.std.specs.Prelude.{◌≡◌, ℕ, List, ◌++◌, All, Option}
use Rattle.batch_worker.specs.Keeping.{with_posted}
use Rattle.mem_queue.specs.Entries.{parcels}
use Rattle.mem_queue.specs.declared.entry.Entry.{Entry}
use Rattle.outside.specs.Counts.{added_counts}
use Rattle.outside.specs.Tails.{TailHistory}
use Rattle.wire_base.specs.declared.note.Note.{Note}
use Rattle.lanes.specs.Giving.{IsInRange, notes_in, parcels_in}
use Rattle.lanes.specs.Handing.{with_put}
use Rattle.lanes.specs.Laning.{Laning}
use Rattle.lanes.specs.Step.{Step, issued_in, noted_in, spans_in}
use Rattle.lanes.specs.Steps.{Run}
use Rattle.lanes.specs.Turned.{IsKnown}

pub record LaneKeeps {T : Type 0} (numbers : T → Option (ℕ × ℕ)) (told : T → Option TailHistory) (faults : T → ℕ) (old new : Laning T) : Type 0 where
  -- the turns, what was put and what was posted, each in order
  pub steps : List Step
  pub entries : List Entry
  pub posted : List Note
  pub put : new.put ≡ with_put old.put entries
  pub post : new.post ≡ with_posted old.post posted
  pub parcels_are : parcels_in old.held ++ issued_in steps ≡ parcels entries ++ parcels_in new.held
  pub notes_are : notes_in old.held ++ noted_in steps ≡ posted ++ notes_in new.held
  pub ran : Run numbers told faults steps old.harvesters new.harvesters
  pub spans : new.spans ≡ added_counts old.spans (spans_in steps)
  pub in_range : IsInRange old.held → IsInRange new.held
  -- of each harvester it is still known what it reported
  pub known : All (IsKnown numbers told) old.harvesters → All (IsKnown numbers told) new.harvesters
