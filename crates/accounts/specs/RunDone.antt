-- What is known besides of a run that ends as done (this project's profile): its last scan was whole, each covered entry of it was followed or
-- skipped for its reason, each file is reported to its end or has another key, and all that was reported is settled and collected. A run that reads its
-- files once makes no other scan.
use Rattle.std.specs.Prelude.{◌≡◌, ◌⊎◌, ℕ, List, [], ◌∷◌, ◌++◌, Contains, slice_get, None, Some}
use Rattle.std.specs.List.{AllByRecursion, flat_map}
use Rattle.batch_worker.specs.Held.{notes_of}
use Rattle.event_tree.specs.declared.input_rule.InputRule.{InputRule}
use Rattle.kept_rows.specs.Drained.{IsPassedOver}
use Rattle.kept_rows.specs.Run.{Run, Scan}
use Rattle.kept_rows.specs.Scans.{IsCovered, IsWhole, ShowsEntry, ShowsFileTo}
use Rattle.outside.specs.declared.history.Shown.{Shown}
use Rattle.pass_sums.specs.Weight.{AsOften}
use Rattle.ship_core.specs.RowOver.{moment_of, slot_of}
use Rattle.wire_base.specs.declared.note.Note.{Note}
use Rattle.accounts.specs.Filed.{Filed, slot_in, turned_of}
use Rattle.accounts.specs.FollowedFile.{key_in, moment_by}
use Rattle.accounts.specs.RunTold.{RunNotes}
use Rattle.accounts.specs.Taken.{Taken, acknowledged_in}
use Rattle.accounts.specs.ToldFile.{IsReadThrough}
use Rattle.accounts.specs.Turned.{Turned, notes_told, parcels_told}

-- ---- the scan

-- no scan of the run is after it, and it was whole; those before it may be partial
pub record IsFullScan (run : Run) (scan : Scan) : Type 0 where
  pub earlier : List Scan
  pub last : run.scans ≡ earlier ++ scan ∷ []
  pub whole : IsWhole run scan

-- one of the files has the entry's path and the input, and the entry shows a file with its key
pub record IsAmongFiles (run : Run) (scan : Scan) (files : List Filed) (shown : Shown) (input : ℕ) : Type 0 where
  pub file : Filed
  pub of_files : Contains files file
  pub input_is : file.opened.begin.input ≡ input
  pub path_is : file.opened.begin.path ≡ shown.entry.path
  pub number : ℕ
  pub shows : ShowsFileTo run scan input (key_in file) number shown

-- each entry that an input covers was listed, and each listed one was begun or skipped
abbrev pub EachEntryIsServed : Run → Scan → List Filed → Type 0
EachEntryIsServed run scan files = (shown : Shown) (input : ℕ) (rule : InputRule) → ShowsEntry run.trace scan shown →
    slice_get run.settings.inputs input ≡ Some rule → IsCovered rule.paths shown.entry.path →
    IsAmongFiles run scan files shown input ⊎ IsPassedOver run rule scan shown input

-- ---- its files

-- the greatest moment that was noted of it is that of the entry from which it was listed, or of its opening row if that is
-- greater; some note of it carries this moment, its Begin or a Seen
pub record HasItsMoment (run : Run) (scan : Scan) (notes : List Note) (file : Filed) : Type 0 where
  pub shown : Shown
  pub entry : ShowsEntry run.trace scan shown
  pub path_is : shown.entry.path ≡ file.opened.begin.path
  pub changed_is : file.changed ≡ moment_by run file shown
  pub note : Note
  pub among : Contains notes note
  pub slot_is : slot_of note ≡ slot_in file
  pub carries : moment_of note ≡ Some file.changed

-- it did not shrink before it was opened, was opened once and not removed, and told to its end or found with another key; where its harvester rests, this is known of it, and stays so once its
-- tail is closed
pub record IsToldWhole (run : Run) (scan : Scan) (notes : List Note) (file : Filed) : Type 0 where
  pub alone : file.later ≡ []
  pub stays : file.removed ≡ None
  pub as_begun : file.shrank_from ≡ None
  pub read_through : IsReadThrough file.turned.history
  pub moment : HasItsMoment run scan notes file

-- ---- what was reported

-- each parcel that files reported is acknowledged, and each note that they reported, or that settles a parcel, is collected: by counts that
-- are equal and not saturated
pub record AreAllCollected (files : List Turned) (workers : List Taken) (collected : List Note) : Type 0 where
  pub parcels_are : AsOften (flat_map parcels_told files) (acknowledged_in workers)
  pub notes_are : AsOften (flat_map notes_told files ++ notes_of (acknowledged_in workers)) collected

-- ---- together

pub record RunDone (run : Run) (scan : Scan) (files : List Filed) (workers : List Taken) (notes : RunNotes) : Type 0 where
  pub full : IsFullScan run scan
  pub served : EachEntryIsServed run scan files
  pub whole : AllByRecursion (IsToldWhole run scan notes.all) files
  pub settled : AreAllCollected (turned_of files) workers notes.collected
