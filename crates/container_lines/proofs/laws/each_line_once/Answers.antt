use Rattle.container_lines.proofs.Once.{once, none_of_dropped}
use Rattle.container_lines.proofs.laws.each_line_once.Goals as goal

pub returns-clause-kept : goal.returns-clause-kept
returns-clause-kept c = λ format keep stream lines kept. once format keep stream lines kept

pub returns-clause-not_kept : goal.returns-clause-not_kept
returns-clause-not_kept c = λ format keep stream lines dropped. none_of_dropped format keep stream lines dropped
