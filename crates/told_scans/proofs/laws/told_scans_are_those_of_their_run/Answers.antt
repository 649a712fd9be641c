use Rattle.told_scans.proofs.ExactScans.{are_exact_scans}
use Rattle.told_scans.proofs.laws.told_scans_are_those_of_their_run.Goals as goal

pub returns : goal.returns
returns c = λ run are. are_exact_scans run are
