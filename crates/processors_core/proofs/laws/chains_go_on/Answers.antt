use Rattle.processors_core.proofs.Chains.{on_what_is_left, stays_dropped}
use Rattle.processors_core.proofs.laws.chains_go_on.Goals as goal

pub returns-clause-left : goal.returns-clause-left
returns-clause-left c = on_what_is_left

pub returns-clause-dropped : goal.returns-clause-dropped
returns-clause-dropped c = stays_dropped
