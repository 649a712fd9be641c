use Rattle.line_cutter.specs.Cut.{cut}
use Rattle.line_cutter.specs.Terminator.{terminator_of}
use Rattle.line_cutter.proofs.Later.{adjoining_in}
use Rattle.line_cutter.proofs.laws.lines_adjoin.Goals as goal

pub returns : goal.returns
returns c = λ rule start bytes. adjoining_in rule start (cut (terminator_of rule.terminator) bytes)
