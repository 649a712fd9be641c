use Rattle.multiline_core.proofs.Natural.{one_row}
use Rattle.multiline_core.proofs.laws.one_event.Goals as goal

pub returns : goal.returns
returns c = λ rule lines row other n m. one_row rule lines row other n m
