use Rattle.report.proofs.last_line.registry_line.Goals as goal

pub returns-clause-told : goal.returns-clause-told
returns-clause-told g c = rw c.area_name.ensures at c.write_parts.ensures.told
