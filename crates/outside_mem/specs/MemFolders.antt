-- How a folder in memory changes (this project's profile).
use Rattle.std.specs.Prelude.{◌≡◌, ℕ, ◌+◌, List, [], ◌∷◌, ◌++◌, length, All, Option, Some, None, slice_get}
use Rattle.std.specs.Arc.{arc_value}
use Rattle.outside.specs.Files.{File}
use Rattle.outside.specs.Folders.{Event, Opened, NotThere}
use Rattle.wire_base.specs.declared.numbers.Moment.{Moment}
use Rattle.outside_mem.specs.declared.folder.MemFolder.{MemFolder}
use Rattle.outside_mem.specs.declared.tail.MemTail.{MemTail}
use Rattle.outside_mem.specs.declared.tracked.Tracked.{Tracked}
use Rattle.outside_mem.specs.Listed.{FindsAt}
use Rattle.outside_mem.specs.Logs.{log_events}
use Rattle.outside_mem.specs.Moments.{moment_of}
use Rattle.outside_mem.specs.Tracking.{files_of, state_of, present_from}

abbrev pub folder_events : MemFolder → List Event
folder_events folder = log_events folder.log

abbrev pub folder_files : MemFolder → List File
folder_files folder = files_of folder.files.items

-- the moment of change that a listing shows for a path
abbrev pub listed_moment : MemFolder → List ℕ → Moment
listed_moment folder path = moment_of folder.moments.items path

-- these events were added, and nothing else changed that is reported or counted
pub record NotesOnly (old new : MemFolder) (events : List Event) : Type 0 where
  pub noted : folder_events new ≡ folder_events old ++ events
  pub files : new.files ≡ old.files
  pub listings : new.listings ≡ old.listings
  pub moments : new.moments ≡ old.moments
  pub failures : new.failures ≡ old.failures
  pub open_tails : new.open_tails ≡ old.open_tails

-- a tail of the file of this number, at which nothing was looked yet
pub record OpensTail (old new : MemFolder) (path : List ℕ) (number : ℕ) (tail : MemTail) : Type 0 where
  pub tracked : Tracked
  pub there : slice_get old.files.items number ≡ Some tracked
  pub notes : NotesOnly old new (Opened path number (state_of old.listings tracked) ∷ [])
  pub script : arc_value tail.script ≡ arc_value tracked.script
  pub number_is : tail.number ≡ number
  pub opening : tail.opening.noted + tail.opening.failed ≡ length (folder_events old)
  pub begun : tail.begun ≡ state_of old.listings tracked
  pub looks : tail.looks.items ≡ []
  pub faults : tail.failures.faults ≡ 0

-- the first file that is found by the path is opened, or none is found by it
abbrev pub OpensOrFindsNone : MemFolder → MemFolder → List ℕ → Option MemTail → Type 0
OpensOrFindsNone old new path None = All (λ one. ¬ (one.entry.path ≡ path)) (present_from old.moments.items 0 old.listings old.files.items) × NotesOnly old new (NotThere path ∷ [])
OpensOrFindsNone old new path (Some tail) = (number : ℕ) × FindsAt old.files.items old.listings path number × OpensTail old new path number tail
