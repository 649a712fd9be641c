use Rattle.registry_log.proofs.OneState.{one_state}
use Rattle.registry_log.proofs.laws.one_state.Goals as goal

pub returns : goal.returns
returns c = one_state
