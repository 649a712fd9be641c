use Rattle.told_scans.proofs.PastFaults.{shows_exactly}
use Rattle.told_scans.proofs.laws.told_scans_show_what_was_listed.Goals as goal

pub returns : goal.returns
returns c = λ told around has on. shows_exactly told has around on
