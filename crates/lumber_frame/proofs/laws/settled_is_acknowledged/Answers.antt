use Rattle.lumber_frame.proofs.Settling.{settled_is}
use Rattle.lumber_frame.proofs.laws.settled_is_acknowledged.Goals as goal

pub returns : goal.returns
returns c = settled_is
