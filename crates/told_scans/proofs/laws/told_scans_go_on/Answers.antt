use Rattle.told_scans.proofs.ExactScans.{may_go_on}
use Rattle.told_scans.proofs.laws.told_scans_go_on.Goals as goal

pub returns : goal.returns
returns c = λ run are. may_go_on run are
