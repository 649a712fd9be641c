-- What a scan showed is what was listed (Filebeat reference, filestream input; this project's profile), also of a scan that is partial: each file that
-- it gives is shown with its key, its path, its size and its moment, by no earlier path, and no other key is shown.
use Rattle.std.specs.Prelude.{◌≡◌, ℕ, List, Contains, Some}
use Rattle.kept_rows.specs.Run.{Run, Scan}
use Rattle.kept_rows.specs.Scans.{IsFirstPath, ShowsFileTo, ShowsKey}
use Rattle.outside.specs.declared.history.Shown.{Shown}
use Rattle.prospect.specs.Doubled.{HaveKey}
use Rattle.prospect.specs.declared.listed.Listed.{Listed}

-- the scan shows the listed file with this key so
pub record IsShownAs (run : Run) (scan : Scan) (one : Listed) (key : List ℕ) : Type 0 where
  pub number : ℕ
  pub shown : Shown
  pub shows : ShowsFileTo run scan one.input key number shown
  pub path_is : shown.entry.path ≡ one.path
  pub size_is : shown.entry.size ≡ one.size
  pub changed_is : shown.entry.changed ≡ one.changed
  pub first : IsFirstPath run scan key number one.path

pub record ShowsExactly (run : Run) (scan : Scan) (files : List Listed) : Type 0 where
  pub each : (one : Listed) (key : List ℕ) → Contains files one → one.key ≡ Some key → IsShownAs run scan one key
  pub only : (key : List ℕ) → ShowsKey run scan key → HaveKey files (Some key)
