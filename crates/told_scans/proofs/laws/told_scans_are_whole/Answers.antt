use Rattle.told_scans.proofs.ScanWhole.{is_whole}
use Rattle.told_scans.proofs.laws.told_scans_are_whole.Goals as goal

pub returns : goal.returns
returns c = λ told around whole on. is_whole told whole around on
