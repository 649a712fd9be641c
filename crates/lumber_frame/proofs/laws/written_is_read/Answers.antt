use Rattle.lumber_frame.proofs.Readings.{read_again}
use Rattle.lumber_frame.proofs.laws.written_is_read.Goals as goal

pub returns : goal.returns
returns c = read_again
