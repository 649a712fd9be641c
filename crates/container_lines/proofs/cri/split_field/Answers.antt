use Rattle.container_lines.proofs.Fields.{splits_at, splits_nowhere}
use Rattle.container_lines.proofs.cri.split_field.Goals as goal

pub returns-in-Some : goal.returns-in-Some
returns-in-Some c = splits_at _ _ c.in-Some.ensures.0 c.in-Some.ensures.1

pub returns-in-None : goal.returns-in-None
returns-in-None c = splits_nowhere _ c.in-None.ensures
