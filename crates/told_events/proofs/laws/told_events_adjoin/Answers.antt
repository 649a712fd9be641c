use Rattle.told_events.proofs.Going.{told_adjoin}
use Rattle.told_events.proofs.laws.told_events_adjoin.Goals as goal

pub returns : goal.returns
returns c = told_adjoin c.spans_adjoin.ensures
