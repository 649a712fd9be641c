use Rattle.line_cutter.proofs.Lining.{complete_lines-append}
use Rattle.line_cutter.proofs.laws.lines_stay.Goals as goal

pub returns : goal.returns
returns c = λ rule start bytes more. (_, complete_lines-append rule start bytes more)
