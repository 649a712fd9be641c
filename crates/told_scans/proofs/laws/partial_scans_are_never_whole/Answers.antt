use Rattle.told_scans.proofs.Partial.{never_whole}
use Rattle.told_scans.proofs.laws.partial_scans_are_never_whole.Goals as goal

pub returns : goal.returns
returns c = λ run scan is whole. never_whole run scan is whole
