use Rattle.std.proofs.Common.{append_assoc, to_z-of_z}
use Rattle.report.proofs.last_line.range_line.Goals as goal

pub returns-clause-told : goal.returns-clause-told
returns-clause-told g c = simp append_assoc (rw (c.bytes.ensures.same, to_z-of_z c.ranges.value) at c.write_parts.ensures.told)
