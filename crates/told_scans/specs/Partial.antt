-- A scan of which something failed (Filebeat reference, filestream input; this project's profile): a listing, or the opening or reading of a file
-- that was asked for its key. It is partial.
use Rattle.std.specs.Prelude.{◌≡◌, ◌≢◌, ◌⊎◌, ℕ, suc, List, [], ◌∷◌, flat_map, map, Contains, slice_get, Some}
use Rattle.kept_rows.specs.Run.{Asking, Run, Scan}
use Rattle.kept_rows.specs.Scans.{MetFault, globs_in, listings_from}
use Rattle.outside.specs.Folders.{Event}
use Rattle.prospect.specs.PastFaults.{Attempt, StandSo, glob_tried, unserved_by}

-- each of these is at its place in a list, from this one on
abbrev pub AreAt : List Event → ℕ → List Event → Type 0
AreAt events place [] = Unit {0}
AreAt events place (event ∷ more) = (slice_get events place ≡ Some event) × AreAt events (suc place) more

-- one listing was tried for each glob, from this place on, and some failed
pub record HasFailedListing (run : Run) (scan : Scan) : Type 0 where
  pub attempts : List Attempt
  pub for_each_glob : map glob_tried attempts ≡ globs_in run.settings.inputs
  pub faults : ℕ
  pub events : List Event
  pub stand : StandSo faults attempts events
  pub place : ℕ
  pub there : AreAt run.trace.events place events
  pub listings_are : scan.listings ≡ listings_from place events
  pub failed : flat_map unserved_by attempts ≢ []

-- a file was opened to be asked, or to be, and that failed
pub record HasFailedAsking (run : Run) (scan : Scan) : Type 0 where
  pub asking : Asking
  pub among : Contains scan.askings asking
  pub opening : ℕ
  pub opening_is : asking.opening ≡ Some opening
  pub failed : MetFault run.trace asking.path opening

abbrev pub IsPartial : Run → Scan → Type 0
IsPartial run scan = HasFailedListing run scan ⊎ HasFailedAsking run scan
