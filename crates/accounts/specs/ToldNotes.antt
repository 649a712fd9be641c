-- What a run reports to its keeper (this project's profile): how each file begins, moments of the last changes of files, paths that they
-- have since, and at which place they end once they were removed; and how each slot of a hidden row begins, and that its row goes. Nothing
-- is said of their order but that all notes, reported and collected, are orderly.
use Rattle.std.specs.Prelude.{◌≡◌, ◌⊎◌, ℕ, ◌≤◌, List, ◌++◌, Contains, Some}
use Rattle.std.specs.List.{AllByRecursion}
use Rattle.harvester.specs.History.{told_to}
use Rattle.kept_rows.specs.Run.{Run}
use Rattle.pass_sums.specs.Weight.{AsOften}
use Rattle.ship_core.specs.Orderly.{AreOrderly}
use Rattle.wire_base.specs.declared.note.Note.{Note}
use Rattle.wire_base.specs.declared.note.Note.TheVariants.{Begin, Forget, Rename, Seen}
use Rattle.wire_base.specs.declared.numbers.Moment.{Moment}
use Rattle.wire_base.specs.declared.parcel.Parcel.{Parcel}
use Rattle.accounts.specs.Filed.{Filed, IsNoted, Removal, its_begin, last_told, turned_of}
use Rattle.accounts.specs.Ground.{HasGround}
use Rattle.accounts.specs.Hidden.{Hidden, hidden_begin, hidden_forget}
use Rattle.accounts.specs.Opened.{Opened}
use Rattle.accounts.specs.Watch.{Name}
use Rattle.accounts.specs.Watched.{WasRenamedSince}

-- the Begin of the file, with no greater moment than was noted of it
pub record IsBeginOf (file : Filed) (note : Note) : Type 0 where
  pub path : List ℕ
  pub changed : Moment
  pub is : note ≡ its_begin file path changed
  pub within : changed.0 ≤ file.changed

-- that of one of the files
pub record IsBeginOfOne (files : List Filed) (note : Note) : Type 0 where
  pub file : Filed
  pub of_files : Contains files file
  pub begins : IsBeginOf file note

-- a moment of one of the files
pub record IsMomentOfOne (files : List Filed) (note : Note) : Type 0 where
  pub file : Filed
  pub of_files : Contains files file
  pub changed : Moment
  pub is : note ≡ Seen file.opened.begin.slot changed
  pub within : changed.0 ≤ file.changed

-- the Begin of one of the hidden rows, or its Forget
pub record IsOfHidden (hiddens : List Hidden) (note : Note) : Type 0 where
  pub hidden : Hidden
  pub of_hiddens : Contains hiddens hidden
  pub is : (note ≡ hidden_begin hidden) ⊎ (note ≡ hidden_forget hidden)

-- a path of the file, by which a scan behind its first opening listed its key first, with the number of that scan
pub record IsNamingOf (run : Run) (file : Filed) (note : Note) : Type 0 where
  pub name : Name
  pub shown : WasRenamedSince run file.opened name
  pub is : note ≡ Rename file.opened.begin.slot name.scan name.path

-- the Forget of a file that was removed: its last epoch, and where all that was reported of it ends
pub record IsForgetOf (file : Filed) (note : Note) : Type 0 where
  pub removal : Removal
  pub removed : file.removed ≡ Some removal
  pub is : note ≡ Forget file.opened.begin.slot (record { 0 = (last_told file).epoch }) (told_to (last_told file))

-- that of one of the files
pub record IsOfFile (run : Run) (files : List Filed) (note : Note) : Type 0 where
  pub file : Filed
  pub of_files : Contains files file
  pub is : IsNamingOf run file note ⊎ IsForgetOf file note

-- what the run may tell
abbrev pub MayTell : Run → List Filed → List Hidden → Note → Type 0
MayTell run files hiddens note = IsBeginOfOne files note ⊎ (IsMomentOfOne files note ⊎ (IsOfHidden hiddens note ⊎ IsOfFile run files note))

-- each may be told, and the Begin of each file and of each hidden row is among them
pub record AreToldNotes (run : Run) (files : List Filed) (hiddens : List Hidden) (told : List Note) : Type 0 where
  pub each : AllByRecursion (MayTell run files hiddens) told
  pub begun : AllByRecursion (IsNoted told) files
  pub hidden_begun : AllByRecursion (λ hidden. Contains told (hidden_begin hidden)) hiddens

-- these notes are, as often, those that were reported and those that were collected, and they are orderly
pub record AreMixed (told collected notes : List Note) : Type 0 where
  pub often : AsOften notes (told ++ collected)
  pub orderly : AreOrderly notes

-- ---- all of them

-- the note was told by the run, or has its ground in what files told
abbrev pub IsKnownNote : Run → List Filed → List Hidden → List Parcel → Note → Type 0
IsKnownNote run files hiddens acknowledged note = MayTell run files hiddens note ⊎ HasGround (turned_of files) acknowledged note

pub record AreNotesOf (run : Run) (files : List Filed) (hiddens : List Hidden) (acknowledged : List Parcel) (notes : List Note) : Type 0 where
  pub each : AllByRecursion (IsKnownNote run files hiddens acknowledged) notes
  pub begun : AllByRecursion (IsNoted notes) files
  pub hidden_begun : AllByRecursion (λ hidden. Contains notes (hidden_begin hidden)) hiddens
  pub orderly : AreOrderly notes

-- ---- the same by files as they were opened, with the greatest moment that was noted of each, as long as none is named anew or removed

pub record IsBeginAs (changed : Opened → ℕ) (opened : Opened) (note : Note) : Type 0 where
  pub path : List ℕ
  pub moment : Moment
  pub is : note ≡ Begin opened.begin.slot opened.begin.key path opened.begin.epoch opened.begin.base moment
  pub within : moment.0 ≤ changed opened

pub record IsBeginAsOne (changed : Opened → ℕ) (files : List Opened) (note : Note) : Type 0 where
  pub opened : Opened
  pub of_files : Contains files opened
  pub begins : IsBeginAs changed opened note

pub record IsMomentAs (changed : Opened → ℕ) (files : List Opened) (note : Note) : Type 0 where
  pub opened : Opened
  pub of_files : Contains files opened
  pub moment : Moment
  pub is : note ≡ Seen opened.begin.slot moment
  pub within : moment.0 ≤ changed opened

abbrev pub MayTellAs : (Opened → ℕ) → List Opened → List Hidden → Note → Type 0
MayTellAs changed files hiddens note = IsBeginAsOne changed files note ⊎ (IsMomentAs changed files note ⊎ IsOfHidden hiddens note)

-- its Begin is among the notes
pub record IsNotedAs (notes : List Note) (opened : Opened) : Type 0 where
  pub path : List ℕ
  pub moment : Moment
  pub there : Contains notes (Begin opened.begin.slot opened.begin.key path opened.begin.epoch opened.begin.base moment)

pub record AreToldNotesAs (changed : Opened → ℕ) (files : List Opened) (hiddens : List Hidden) (told : List Note) : Type 0 where
  pub each : AllByRecursion (MayTellAs changed files hiddens) told
  pub begun : AllByRecursion (IsNotedAs told) files
  pub hidden_begun : AllByRecursion (λ hidden. Contains told (hidden_begin hidden)) hiddens
