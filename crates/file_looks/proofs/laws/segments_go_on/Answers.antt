use Rattle.file_looks.proofs.Going.{segments_on}
use Rattle.file_looks.proofs.laws.segments_go_on.Goals as goal

pub returns : goal.returns
returns c = segments_on
