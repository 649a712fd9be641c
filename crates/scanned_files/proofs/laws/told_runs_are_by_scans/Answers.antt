use Rattle.scanned_files.proofs.Accounted.{is_by_scans}
use Rattle.scanned_files.proofs.laws.told_runs_are_by_scans.Goals as goal

pub returns : goal.returns
returns c = λ run are. is_by_scans run are
