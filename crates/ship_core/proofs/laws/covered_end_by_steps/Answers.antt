use Rattle.ship_core.proofs.Covering.{stays, goes}
use Rattle.ship_core.proofs.Prefixes.{no_further}
use Rattle.ship_core.proofs.laws.covered_end_by_steps.Goals as goal

pub returns-clause-none : goal.returns-clause-none
returns-clause-none c = stays

pub returns-clause-some : goal.returns-clause-some
returns-clause-some c = goes

pub returns-clause-bounded : goal.returns-clause-bounded
returns-clause-bounded c = no_further
