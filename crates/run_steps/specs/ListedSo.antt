-- How an opening of a run was listed (Filebeat reference, filestream input, prospector; this project's profile): a scan listed the file as one to be followed,
-- and it was opened by that entry, after that scan and before the next one. This is said of each opening alike, whether it is the first one of its file or
-- a later one.
use Rattle.std.specs.Prelude.{◌≡◌, ◌⊎◌, ◌≤◌, List, [], ◌∷◌, ◌++◌, Contains, length, IfSome, Some}
use Rattle.std.specs.List.{AllByRecursion}
use Rattle.accounts.specs.Opened.{Opened}
use Rattle.prospect.specs.declared.listed.Listed.{Listed}
use Rattle.run_steps.specs.LaterScans.{LaterScan, WasMadeAfter}

-- one of these entries has its key and its input, and the path by which it was opened and the size with which it begins
pub record IsByEntry (files : List Listed) (one : Opened) : Type 0 where
  pub entry : Listed
  pub there : Contains files entry
  pub keyed : entry.key ≡ Some one.begin.key
  pub path_is : one.begin.path ≡ entry.path
  pub input_is : one.begin.input ≡ entry.input
  pub size_is : one.begin.size ≡ entry.size

-- the run's first scan listed it, and each later scan was made after its opening
pub record WasListedFirst (listed : List Listed) (scans : List LaterScan) (one : Opened) : Type 0 where
  pub by_entry : IsByEntry listed one
  pub until : AllByRecursion (WasMadeAfter one.opening) scans

-- a later scan listed it; it was opened after that scan, and each scan after that one was made after its opening
pub record WasListedLater (scans : List LaterScan) (one : Opened) : Type 0 where
  pub front : List LaterScan
  pub scan : LaterScan
  pub behind : List LaterScan
  pub scans_are : scans ≡ front ++ scan ∷ behind
  pub by_entry : IsByEntry scan.files one
  pub since : IfSome scan.told (λ told. length told.scanned.events ≤ one.opening)
  pub until : AllByRecursion (WasMadeAfter one.opening) behind

-- by what the first scan listed, and the later scans
abbrev pub WasListedSo : List Listed → List LaterScan → Opened → Type 0
WasListedSo listed scans one = WasListedFirst listed scans one ⊎ WasListedLater scans one

-- what the newest scan listed: the first one, or the last of the later ones
abbrev pub newest_files : List Listed → List LaterScan → List Listed
newest_files listed [] = listed
newest_files listed (scan ∷ scans) = newest_files scan.files scans
