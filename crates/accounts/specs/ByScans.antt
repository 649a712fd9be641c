-- The scans of a run as they were reported (this project's profile): all its listings are those of its scans, in their order, and each scan asked for
-- the keys of entries of its own listings. A scan may be partial, if a listing failed or an asking hit a fault; only the last may be cut off.
-- Which of them are whole is said by those that ask it (`IsWhole`).
use Rattle.std.specs.List.{AllByRecursion}
use Rattle.kept_rows.specs.Askings.{AsksInOrder}
use Rattle.kept_rows.specs.Run.{Run, Scan}
use Rattle.kept_rows.specs.Scans.{AllButTheLast, AreAsked, AreScans, WasAskedSo}
use Rattle.accounts.specs.RunsInARow.{HaveOwnIds}

-- its askings are its own, in their order, and each hit no fault, or the scan is partial by it
pub record IsToldScan (run : Run) (scan : Scan) : Type 0 where
  pub asked_so : AllByRecursion (WasAskedSo run scan) scan.askings
  pub asks_in_order : AsksInOrder run scan

pub record IsByScans (run : Run) : Type 0 where
  pub scans : AreScans run
  pub asked : AllButTheLast (AreAsked run) run.scans
  pub each : AllByRecursion (IsToldScan run) run.scans
  pub own_ids : HaveOwnIds run.settings.inputs
