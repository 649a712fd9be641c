-- What one scan reported to a check (Filebeat reference, filestream input, file identity; this project's profile): which files it
-- listed, and which of these have too few bytes for a fingerprint or the key of another.
use Rattle.std.specs.Prelude.{◌≡◌, ◌⊎◌, ℕ, List, [], slice_get, Option, None, Some, Vec, true, false}
use Rattle.std.specs.declared.alloc.Global.{Global}
use Rattle.event_tree.specs.declared.input_rule.InputRule.{InputRule}
use Rattle.outside.specs.Folders.{FolderHistory}
use Rattle.prospect.specs.AskedFiles.{AsksFiles, AsksSome}
use Rattle.prospect.specs.Doubled.{PartsDoubled}
use Rattle.prospect.specs.ListedFiles.{EndsAs, ScansFiles}
use Rattle.prospect.specs.declared.asking.Keyed.{Keyed}
use Rattle.prospect.specs.declared.listed.Listed.{Listed}
use Rattle.prospect.specs.declared.scan_error.ScanError.TheVariants as scanning
use Rattle.prospector_core.specs.declared.limits.TheConstants.{MAX_FILES}
use Rattle.report.specs.declared.status.Status.{Status}
use Rattle.report.specs.declared.status.Status.TheVariants.{NoMemory, NoNative, TooMany}
use Rattle.wire_base.specs.declared.limits.Full.TheVariants.{Files}
use Rattle.findings.specs.declared.scan.Marks.{Marks}

-- the files that were listed, or a listing failed
abbrev pub ListsSo : List InputRule → FolderHistory → Option (Vec Listed Global) → Option FolderHistory → Type 0
ListsSo inputs told None after = EndsAs inputs told scanning.Failed after
ListsSo inputs told (Some listed) after = ScansFiles inputs told listed.items after

-- ---- why there is nothing to check

-- the first of these files that is one more than a run can know has this path
pub record IsOneTooMany (files : List Listed) (path : List ℕ) : Type 0 where
  pub one : Listed
  pub at : slice_get files MAX_FILES ≡ Some one
  pub path_is : one.path ≡ path

abbrev pub IsTooManyEnd : List Listed → Status → Type 0
IsTooManyEnd files NoMemory = Unit {0}
IsTooManyEnd files (TooMany Files path) = IsOneTooMany files path
IsTooManyEnd files _ = ⊥

-- listed files were asked for their keys, and of those with a key of their own one is too many
pub record AsksTooMany (inputs : List InputRule) (told : FolderHistory) (listed : List Listed) (path : List ℕ) (after : Option FolderHistory) : Type 0 where
  pub keyed : Keyed
  pub asks : AsksFiles inputs told listed keyed after
  pub followed : List Listed
  pub doubled : List Listed
  pub parts : PartsDoubled keyed.files.items followed doubled
  pub too_many : IsOneTooMany followed path

abbrev pub ShowsMarksEnd : List InputRule → FolderHistory → List Listed → Status → Option FolderHistory → Type 0
ShowsMarksEnd inputs told listed (TooMany Files path) after = AsksTooMany inputs told listed path after
ShowsMarksEnd inputs told listed _ after = Unit {0}

abbrev pub IsMarksEnd : Status → Type 0
IsMarksEnd NoMemory = Unit {0}
IsMarksEnd (TooMany Files path) = Unit {0}
IsMarksEnd _ = ⊥

-- all was listed before
pub record ListsTooMany (inputs : List InputRule) (told : FolderHistory) (path : List ℕ) (after : Option FolderHistory) : Type 0 where
  pub listed : List Listed
  pub history : FolderHistory
  pub lists : ScansFiles inputs told listed (Some history)
  pub asks : AsksTooMany inputs history listed path after

-- what a scan that found too many files, or one without native numbers, has listed
abbrev pub ShowsEnd : List InputRule → FolderHistory → Status → Option FolderHistory → Type 0
ShowsEnd inputs told (TooMany Files path) after = ListsTooMany inputs told path after
ShowsEnd inputs told (NoNative path) after = EndsAs inputs told (scanning.NoNative path) after
ShowsEnd inputs told _ after = Unit {0}

-- a status that a scan may end with
abbrev pub IsScanEnd : Status → Type 0
IsScanEnd NoMemory = Unit {0}
IsScanEnd (TooMany Files path) = Unit {0}
IsScanEnd (NoNative path) = Unit {0}
IsScanEnd _ = ⊥

-- ---- what it reported

-- every file was asked for its key
pub record AsksAll (inputs : List InputRule) (told : FolderHistory) (listed : List Listed) (marks : Marks) (after : Option FolderHistory) : Type 0 where
  pub keyed : Keyed
  pub asks : AsksFiles inputs told listed keyed after
  pub followed : List Listed
  pub parts : PartsDoubled keyed.files.items followed marks.doubled.items
  pub small : marks.small.items ≡ keyed.small.items
  pub whole : marks.failed ≡ false

-- an opening or a read failed, and so no file is reported
pub record AsksFewer (inputs : List InputRule) (told : FolderHistory) (listed : List Listed) (marks : Marks) (after : Option FolderHistory) : Type 0 where
  pub asks : AsksSome inputs told listed after
  pub doubled : marks.doubled.items ≡ []
  pub small : marks.small.items ≡ []
  pub failed : marks.failed ≡ true

abbrev pub TellsMarks : List InputRule → FolderHistory → List Listed → Marks → Option FolderHistory → Type 0
TellsMarks inputs told listed marks after = AsksAll inputs told listed marks after ⊎ AsksFewer inputs told listed marks after
