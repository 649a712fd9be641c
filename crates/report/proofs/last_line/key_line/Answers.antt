use Rattle.std.proofs.Common.{append_assoc}
use Rattle.report.proofs.last_line.key_line.Goals as goal

pub returns-clause-told : goal.returns-clause-told
returns-clause-told g c = simp append_assoc (rw c.bytes.ensures.same at c.write_parts.ensures.told)
