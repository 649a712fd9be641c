use Rattle.lumber_frame.proofs.GoingOn.{stays}
use Rattle.lumber_frame.proofs.laws.acknowledged_stays.Goals as goal

pub returns : goal.returns
returns c = stays
