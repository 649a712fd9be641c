use Rattle.line_cutter.proofs.Cuts.{cut-first, cut-none}
use Rattle.line_cutter.proofs.Lining.{some_byte}
use Rattle.line_cutter.specs.Terminator.{terminator_of}
use Rattle.line_cutter.proofs.laws.first_terminator_ends_a_line.Goals as goal

pub returns-clause-first : goal.returns-clause-first
returns-clause-first c = λ terminator bytes place stands first. cut-first (terminator_of terminator) (some_byte terminator) bytes place stands first

pub returns-clause-none : goal.returns-clause-none
returns-clause-none c = λ terminator bytes none. cut-none (terminator_of terminator) (some_byte terminator) bytes none
