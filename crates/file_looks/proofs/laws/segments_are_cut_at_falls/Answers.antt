use Rattle.file_looks.proofs.Cutting.{segments_are}
use Rattle.file_looks.proofs.laws.segments_are_cut_at_falls.Goals as goal

pub returns : goal.returns
returns c = segments_are
