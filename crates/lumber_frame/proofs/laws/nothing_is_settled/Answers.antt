use Rattle.lumber_frame.proofs.Settling.{nothing}
use Rattle.lumber_frame.proofs.laws.nothing_is_settled.Goals as goal

pub returns : goal.returns
returns c = nothing
