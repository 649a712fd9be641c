use Rattle.told_scans.proofs.FaultyScans.{is_partial}
use Rattle.told_scans.proofs.laws.told_faults_make_scans_partial.Goals as goal

pub returns : goal.returns
returns c = λ told around faulty on. is_partial told faulty around on
