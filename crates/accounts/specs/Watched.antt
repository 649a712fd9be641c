-- What the scans of a run report of a file that it opened (this project's profile): that it was removed since, and by which paths it is known
-- since.
use Rattle.std.specs.Prelude.{◌≡◌, ℕ, List, ◌∷◌, ◌++◌, Contains, length}
use Rattle.std.specs.List.{AllByRecursion}
use Rattle.kept_rows.specs.Run.{Run, Scan}
use Rattle.kept_rows.specs.Scans.{IsBehind, IsFirstPath, IsWhole, ShowsFile}
use Rattle.accounts.specs.Opened.{Opened}
use Rattle.accounts.specs.Watch.{Name, Watch}

-- a whole scan that was made after the opening did not show the file with its key
pub record WasRemovedSince (run : Run) (opened : Opened) : Type 0 where
  pub scan : Scan
  pub of_run : Contains run.scans scan
  pub whole : IsWhole run scan
  pub later : IsBehind opened.opening scan
  pub hidden : (path : List ℕ) → ¬ (ShowsFile run scan opened.begin.key opened.number path)

-- the scan of the name's number showed the key by its path first; it was made after the opening, as those after it were
pub record WasRenamedSince (run : Run) (opened : Opened) (name : Name) : Type 0 where
  pub front : List Scan
  pub scan : Scan
  pub behind : List Scan
  pub scans_are : run.scans ≡ front ++ scan ∷ behind
  pub number_is : name.scan ≡ length front
  pub later : AllByRecursion (IsBehind opened.opening) (scan ∷ behind)
  pub number : ℕ
  pub first : IsFirstPath run scan opened.begin.key number name.path

abbrev pub watch_in : Run → Watch
watch_in run = record { processors = run.settings.processors; once = run.once; removed = WasRemovedSince run; renamed = WasRenamedSince run }
