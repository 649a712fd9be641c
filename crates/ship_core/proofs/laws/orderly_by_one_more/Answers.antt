use Rattle.ship_core.proofs.InOrder.{none_orderly, one_more_orderly, front_orderly, follows}
use Rattle.ship_core.proofs.laws.orderly_by_one_more.Goals as goal

pub returns-clause-none : goal.returns-clause-none
returns-clause-none c = none_orderly

pub returns-clause-one_more : goal.returns-clause-one_more
returns-clause-one_more c = one_more_orderly

pub returns-clause-front : goal.returns-clause-front
returns-clause-front c = front_orderly

pub returns-clause-follows : goal.returns-clause-follows
returns-clause-follows c = follows
