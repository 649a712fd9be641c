use Rattle.rules_in_range.proofs.Levels.{no_level, all_less, some_less, other_less}
use Rattle.rules_in_range.proofs.laws.a_level_less.Goals as goal

pub returns-clause-some_level : goal.returns-clause-some_level
returns-clause-some_level c = no_level

pub returns-clause-all : goal.returns-clause-all
returns-clause-all c = all_less

pub returns-clause-some : goal.returns-clause-some
returns-clause-some c = some_less

pub returns-clause-other : goal.returns-clause-other
returns-clause-other c = other_less
