use Rattle.conditions.proofs.Joined.{and_of_list, not_of_one, or_of_list}
use Rattle.conditions.proofs.laws.joined_conditions.Goals as goal

pub returns-clause-all : goal.returns-clause-all
returns-clause-all c = and_of_list

pub returns-clause-some : goal.returns-clause-some
returns-clause-some c = or_of_list

pub returns-clause-other : goal.returns-clause-other
returns-clause-other c = not_of_one
