use Rattle.conditions.proofs.Texts.{asked_of_none, asked_there}
use Rattle.conditions.proofs.laws.questions_at_paths.Goals as goal

pub returns-clause-there : goal.returns-clause-there
returns-clause-there c = asked_there

pub returns-clause-absent : goal.returns-clause-absent
returns-clause-absent c = asked_of_none
