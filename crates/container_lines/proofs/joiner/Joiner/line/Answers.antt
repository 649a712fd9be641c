use Rattle.container_lines.proofs.Joins.{told_by_the_lines, taken}
use Rattle.container_lines.proofs.joiner.Joiner.line.Goals as goal

pub returns-clause-told_by_the_lines : goal.returns-clause-told_by_the_lines
returns-clause-told_by_the_lines c = told_by_the_lines _ _ _ c.tell_line.ensures.told

pub returns-clause-taken : goal.returns-clause-taken
returns-clause-taken c = taken _ _ _ _ c.tell_line.ensures.behind
