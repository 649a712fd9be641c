use Rattle.report.proofs.last_line.unreachable_line.Goals as goal

pub returns-clause-told : goal.returns-clause-told
returns-clause-told g c = rw (c.from.ensures, c.from-2.ensures) at c.write_parts.ensures.told
