-- A run whose scans come one after another is a run by scans.
use Rattle.kept_rows.specs.Run.{Run}
use Rattle.prospect.proofs.Lists.{all_map}
use Rattle.accounts.specs.ByScans.{IsToldScan}
use Rattle.told_scans.proofs.ExactScans.{all_asked, are_exact_scans}
use Rattle.told_scans.specs.ToldScan.{scan_by}
use Rattle.scanned_files.specs.Listings.{IsByItsScans}
use Rattle.told_scans.specs.ToldScans.{AreToldIn, IsExactScan, ToldRun, run_by}

module _ (run : ToldRun) (are : AreToldIn run) where
  abbrev its_run : Run
  its_run = run_by run

  pub is_by_scans : IsByItsScans run
  is_by_scans moments own_ids = record {
    scans = (are_exact_scans run are).are_scans moments;
    asked = all_asked run are;
    each = all_map (IsToldScan its_run) (IsExactScan its_run) scan_by (λ told is. record { asked_so = is.asked_so; asks_in_order = is.asks_in_order }) run.scans (are_exact_scans run are).each;
    own_ids = own_ids;
  }
