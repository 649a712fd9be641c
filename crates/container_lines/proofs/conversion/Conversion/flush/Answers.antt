use Rattle.container_lines.proofs.Outputs.{stands_written_in_part}
use Rattle.container_lines.proofs.conversion.Conversion.flush.Goals as goal

pub returns-in-Err-clause-front : goal.returns-in-Err-clause-front
returns-in-Err-clause-front g c = λ before text stands. stands_written_in_part before text _ _ _ stands (rw c.deref.ensures.value at c.in-Err.ensures.front)
