use Rattle.wire_base.proofs.Keyed.{find-with, find-with_not, find-without, find-without_not}
use Rattle.ship_core.specs.Rows.{key_of}
use Rattle.ship_core.proofs.Applied.{in_order-op}
use Rattle.ship_core.proofs.laws.update_by_key.Goals as goal

pub returns-clause-set : goal.returns-clause-set
returns-clause-set c = find-with key_of

pub returns-clause-others_after_set : goal.returns-clause-others_after_set
returns-clause-others_after_set c = λ row rows key differs. find-with_not key_of row rows key differs

pub returns-clause-removed : goal.returns-clause-removed
returns-clause-removed c = find-without key_of

pub returns-clause-others_after_remove : goal.returns-clause-others_after_remove
returns-clause-others_after_remove c = find-without_not key_of

pub returns-clause-in_order : goal.returns-clause-in_order
returns-clause-in_order c = in_order-op
