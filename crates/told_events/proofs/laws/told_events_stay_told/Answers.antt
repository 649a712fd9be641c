use Rattle.told_events.proofs.Going.{stay_told}
use Rattle.told_events.proofs.laws.told_events_stay_told.Goals as goal

pub returns : goal.returns
returns c = stay_told
