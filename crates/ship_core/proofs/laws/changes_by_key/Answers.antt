use Rattle.std.proofs.Common.{refl}
use Rattle.ship_core.proofs.Leading.{changes_lead, no_change, told_by_key, no_other}
use Rattle.ship_core.proofs.laws.changes_by_key.Goals as goal

pub returns-clause-lead : goal.returns-clause-lead
returns-clause-lead c = changes_lead

pub returns-clause-told : goal.returns-clause-told
returns-clause-told c = told_by_key

pub returns-clause-no_other : goal.returns-clause-no_other
returns-clause-no_other c = no_other

pub returns-clause-unchanged : goal.returns-clause-unchanged
returns-clause-unchanged c = λ key row. no_change key row row refl
