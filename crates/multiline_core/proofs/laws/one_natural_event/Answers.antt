use Rattle.multiline_core.proofs.Natural.{one_end}
use Rattle.multiline_core.proofs.laws.one_natural_event.Goals as goal

pub returns : goal.returns
returns c = λ lines rule bytes start end other n m. one_end lines rule bytes start end other n m
