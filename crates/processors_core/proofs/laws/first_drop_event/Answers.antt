use Rattle.processors_core.proofs.Chains.{drops_first, first_drop}
use Rattle.processors_core.proofs.laws.first_drop_event.Goals as goal

pub returns-clause-is_first : goal.returns-clause-is_first
returns-clause-is_first c = first_drop

pub returns-clause-drops : goal.returns-clause-drops
returns-clause-drops c = drops_first
