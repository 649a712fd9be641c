use Rattle.keeper.proofs.Few.{few_keys_by_length}
use Rattle.keeper.proofs.laws.few_keys_by_length.Goals as goal

pub returns : goal.returns
returns c = few_keys_by_length
