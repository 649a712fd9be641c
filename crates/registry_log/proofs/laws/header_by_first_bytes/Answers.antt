use Rattle.std.proofs.Common.{arith}
use Rattle.registry_log.proofs.Headers.{same_first_wrong, same_generation}
use Rattle.registry_log.proofs.laws.header_by_first_bytes.Goals as goal

pub returns-clause-place : goal.returns-clause-place
returns-clause-place c = same_first_wrong

pub returns-clause-generation : goal.returns-clause-generation
returns-clause-generation c = λ area count enough. same_generation area count (omega (arith, enough))
