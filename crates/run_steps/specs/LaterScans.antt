-- The scans that a run makes after its first one (Filebeat reference, filestream input; this project's profile), and what they say of a file
-- while a tail of it is open: that it was removed, or is known by another path.
use Rattle.std.specs.Prelude.{◌≡◌, ℕ, suc, ◌<◌, Bool, false, true, List, [], ◌∷◌, ◌++◌, Contains, length, map, Option, IfSome, IsSome, None, Some}
use Rattle.std.specs.List.{AllByRecursion, filter_map}
use Rattle.accounts.specs.Opened.{Opened}
use Rattle.accounts.specs.Watch.{Name}
use Rattle.event_tree.specs.declared.settings.Settings.{Settings}
use Rattle.kept_rows.specs.Scans.{StandInOrder}
use Rattle.outside.specs.Folders.{FolderHistory}
use Rattle.prospect.specs.Doubled.{HaveKey}
use Rattle.prospect.specs.declared.listed.Listed.{Listed}
use Rattle.told_scans.specs.ToldScan.{IsTold, IsToldWithFault, IsToldWithoutFault, ToldScan}
use Rattle.run_steps.specs.Began.{Began}

-- what is known of it by the folder, if anything is
pub record LaterScan : Type 0 where
  pub moment : ℕ
  -- the first file of each key, and the others
  pub files : List Listed
  pub doubled : List Listed
  -- no listing failed, and no asking
  pub whole : Bool
  pub told : Option ToldScan

abbrev pub told_in : List LaterScan → List ToldScan
told_in scans = filter_map (λ scan. scan.told) scans

-- what the folder reported of the scan is what the run knows of it
pub record IsKnownScan (scan : LaterScan) : Type 0 where
  pub told : ToldScan
  pub told_is : scan.told ≡ Some told
  pub moment_is : told.moment ≡ scan.moment
  pub files_are : told.files ≡ scan.files
  pub doubled_are : told.doubled ≡ scan.doubled
  pub whole : scan.whole ≡ true → IsToldWithoutFault told
  pub partial : scan.whole ≡ false → IsToldWithFault told

-- the next one: between what the folder reported before it and what it reports after it
pub record IsNextScan (settings : Settings) (now : FolderHistory) (scan : LaterScan) (after : FolderHistory) : Type 0 where
  pub known : IsKnownScan scan
  pub settings_are : known.told.settings ≡ settings
  pub is : IsTold known.told
  pub earlier_is : known.told.earlier ≡ now
  pub scanned_is : known.told.scanned ≡ after

abbrev pub ScansOn : Settings → Option FolderHistory → LaterScan → Option FolderHistory → Type 0
ScansOn settings None scan after = after ≡ None
ScansOn settings (Some now) scan None = ⊥
ScansOn settings (Some now) scan (Some after) = IsNextScan settings now scan after

-- of a run that began so, with its moments so far
pub record AreLaterScans {D : Type 0} (start : Began D) (moments : List ℕ) (scans : List LaterScan) : Type 0 where
  -- a run that reads its files once makes none
  pub none_with_once : start.once ≡ true → scans ≡ []
  pub timed : StandInOrder (start.moment ∷ map (λ scan. scan.moment) scans) moments
  pub known : IsSome start.shown → AllByRecursion IsKnownScan scans

-- ---- what they say of a file that was opened

-- the scan was made after the opening
abbrev pub WasMadeAfter : ℕ → LaterScan → Type 0
WasMadeAfter opening scan = IfSome scan.told (λ told. opening < length told.earlier.events)

-- one of them was whole and showed no file with its key
pub record WasMissed (scans : List LaterScan) (opened : Opened) : Type 0 where
  pub scan : LaterScan
  pub of_scans : Contains scans scan
  pub whole : scan.whole ≡ true
  pub after : WasMadeAfter opened.opening scan
  pub not_listed : ¬ (HaveKey scan.files (Some opened.begin.key))

-- the one with the name's number listed its key under the name's path; the first scan of the run has the number 0
pub record WasNamed (scans : List LaterScan) (opened : Opened) (name : Name) : Type 0 where
  pub before : List LaterScan
  pub scan : LaterScan
  pub later : List LaterScan
  pub scans_are : scans ≡ before ++ scan ∷ later
  pub number_is : name.scan ≡ suc (length before)
  pub after : WasMadeAfter opened.opening scan
  pub one : Listed
  pub listed : Contains scan.files one
  pub keyed : one.key ≡ Some opened.begin.key
  pub path_is : one.path ≡ name.path
