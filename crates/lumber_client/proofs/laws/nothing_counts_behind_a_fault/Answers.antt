use Rattle.lumber_client.proofs.Behind.{nothing_behind}
use Rattle.lumber_client.proofs.laws.nothing_counts_behind_a_fault.Goals as goal

pub returns : goal.returns
returns c = nothing_behind
