use Rattle.told_events.proofs.Going.{behind, front, others}
use Rattle.told_events.proofs.laws.told_events_go_on.Goals as goal

pub returns-clause-behind : goal.returns-clause-behind
returns-clause-behind c = behind

pub returns-clause-front : goal.returns-clause-front
returns-clause-front c = front

pub returns-clause-others : goal.returns-clause-others
returns-clause-others c = others
