-- What a check sees (this project's profile): of each glob how many of the listed files it finds and what the system reports of
-- it, of each listed file whether it can be read, and of each host whether it connects.
use Rattle.std.specs.Prelude.{◌≡◌, ◌⊎◌, ℕ, List, [], ◌∷◌, ◌++◌, length, map, Option, None, Some, IfSome, Vec, Bool, true, false, if◌then◌else◌}
use Rattle.std.specs.List.{flat_map}
use Rattle.std.specs.declared.alloc.Global.{Global}
use Rattle.event_tree.specs.declared.input_rule.InputRule.{InputRule}
use Rattle.glob_paths.specs.Root.{root_of}
use Rattle.outside.specs.Folders.{FolderHistory}
use Rattle.prospect.specs.ListedFiles.{EndsAs, ScansFiles}
use Rattle.prospect.specs.declared.listed.Listed.{Listed}
use Rattle.prospect.specs.declared.scan_error.ScanError.TheVariants.{Failed}
use Rattle.wire_base.specs.declared.host.Host.{Host}
use Rattle.findings.specs.Counting.{Counts}
use Rattle.findings.specs.Each.{Each}
use Rattle.findings.specs.Globs.{asked_globs}
use Rattle.findings.specs.Scanning.{TellsMarks}
use Rattle.findings.specs.System.{SystemTold}
use Rattle.findings.specs.declared.globs.GlobAsked.{GlobAsked}
use Rattle.findings.specs.declared.place.Place.{Place}
use Rattle.findings.specs.declared.place.Place.TheVariants.{Folder, Nothing, Other}
use Rattle.findings.specs.declared.scan.Marks.{Marks}
use Rattle.findings.specs.declared.seen.FilesSeen.{FilesSeen}
use Rattle.findings.specs.declared.seen.GlobSeen.{GlobSeen}
use Rattle.findings.specs.declared.seen.Unread.{Unread}
use Rattle.findings.specs.declared.trial.Trial.{Trial}

-- how many files the glob finds; nothing if a folder could not be listed
abbrev pub IsCount : GlobAsked → Option (Vec Listed Global) → Option ℕ → Type 0
IsCount asked None files = files ≡ None
IsCount asked (Some listed) files = (count : ℕ) × (files ≡ Some count) × Counts asked listed.items count

-- what the system reports of a glob
pub record IsToldOf (told : SystemTold) (one : GlobSeen) : Type 0 where
  pub root : one.root ≡ told.place (root_of one.asked.glob)
  pub spelled : one.spelled ≡ told.place one.asked.text
  pub skipped : one.skipped.items ≡ told.skipped one.asked.glob

pub record SeesGlob (system : Option SystemTold) (listed : Option (Vec Listed Global)) (asked : GlobAsked) (one : GlobSeen) : Type 0 where
  pub asked_is : one.asked ≡ asked
  pub files : IsCount asked listed one.files
  pub told : IfSome system (λ told. IsToldOf told one)

abbrev pub is_there : Place → Bool
is_there Nothing = false
is_there Folder = true
is_there Other = true

abbrev pub unread_by : List ℕ → Bool → Option (List ℕ) → List Unread
unread_by path there None = []
unread_by path there (Some refusal) = if there then record { path = path; refusal = refusal } ∷ [] else []

-- the file, if it is there and cannot be read
abbrev pub unread_of : SystemTold → Listed → List Unread
unread_of told one = unread_by one.path (is_there (told.place one.path)) (told.refusal one.path)

abbrev pub AreUnread : Option SystemTold → List Listed → List Unread → Type 0
AreUnread system listed unread = IfSome system (λ told. unread ≡ flat_map (unread_of told) listed)

-- each host was tried once, in the order of the settings, and no other
pub record TriesAll (before : Option (List Trial)) (hosts : List Host) (trials : List Trial) (after : Option (List Trial)) : Type 0 where
  pub each_once : map (λ trial. trial.host) trials ≡ hosts
  pub told : IfSome before (λ tried. after ≡ Some (tried ++ trials))

-- what is seen of listed files, which were then asked for their keys
pub record SeesListed (system : Option SystemTold) (inputs : List InputRule) (told : FolderHistory) (listed : List Listed) (files : FilesSeen) (after : Option FolderHistory) : Type 0 where
  pub count : files.files ≡ length listed
  pub unread : AreUnread system listed files.unread.items
  pub marks : Marks
  pub marked : TellsMarks inputs told listed marks after
  pub small : files.small.items ≡ marks.small.items
  pub doubled : files.doubled.items ≡ marks.doubled.items
  pub failed : files.failed ≡ marks.failed

-- the files were listed and asked for their keys
pub record FindsFiles (system : Option SystemTold) (inputs : List InputRule) (told : FolderHistory) (files : FilesSeen) (after : Option FolderHistory) : Type 0 where
  pub listed : Vec Listed Global
  pub history : FolderHistory
  pub lists : ScansFiles inputs told listed.items (Some history)
  pub globs : Each (SeesGlob system (Some listed)) (asked_globs 0 inputs) files.globs.items
  pub sees : SeesListed system inputs history listed.items files after

-- a folder could not be listed, and so no file is reported
pub record FindsNone (system : Option SystemTold) (inputs : List InputRule) (told : FolderHistory) (files : FilesSeen) (after : Option FolderHistory) : Type 0 where
  pub ends : EndsAs inputs told Failed after
  pub globs : Each (SeesGlob system None) (asked_globs 0 inputs) files.globs.items
  pub count : files.files ≡ 0
  pub unread : files.unread.items ≡ []
  pub small : files.small.items ≡ []
  pub doubled : files.doubled.items ≡ []
  pub failed : files.failed ≡ true

abbrev pub SeesFiles : Option SystemTold → List InputRule → FolderHistory → FilesSeen → Option FolderHistory → Type 0
SeesFiles system inputs told files after = FindsFiles system inputs told files after ⊎ FindsNone system inputs told files after
