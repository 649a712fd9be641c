use Rattle.line_cutter.proofs.Later.{lines_behind}
use Rattle.line_cutter.proofs.laws.later_lines.Goals as goal

pub returns : goal.returns
returns c = λ rule start bytes given line more e. lines_behind rule given start bytes line more e
