use Rattle.registry_store.proofs.Few.{few_by_length}
use Rattle.registry_store.proofs.laws.few_by_length.Goals as goal

pub returns : goal.returns
returns c = few_by_length
