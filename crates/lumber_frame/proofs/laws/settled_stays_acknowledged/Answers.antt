use Rattle.lumber_frame.proofs.GoingOn.{settled_stays}
use Rattle.lumber_frame.proofs.laws.settled_stays_acknowledged.Goals as goal

pub returns : goal.returns
returns c = settled_stays
