-- A run that ended before it scanned (this project's profile), as when its registry could not be opened: it listed nothing, opened no
-- file and made no connection.
use Rattle.std.specs.Prelude.{◌≡◌, ℕ, ◌≢◌, ◌≤◌, List, [], slice_get, None, Some}
use Rattle.std.specs.List.{AllByRecursion}
use Rattle.kept_rows.specs.Run.{Run}
use Rattle.kept_rows.specs.Scans.{listings_of}
use Rattle.kept_rows.specs.Trace.{WireTold}
use Rattle.outside.specs.Folders.{Opened}
use Rattle.outside.specs.declared.history.Sight.{Sight}

pub record IsSilent (wire : WireTold) : Type 0 where
  pub none_made : wire.outcomes ≡ []
  pub none_open : wire.open_talk ≡ None

pub record IsUnscanned (run : Run) : Type 0 where
  pub no_scan : run.scans ≡ []
  pub no_listing : listings_of run.trace ≡ []
  pub no_opening : (opening : ℕ) (path : List ℕ) (number : ℕ) (begun : Sight) → run.trace.began ≤ opening →
      slice_get run.trace.events opening ≢ Some (Opened path number begun)
  pub silent : AllByRecursion IsSilent run.trace.wires
