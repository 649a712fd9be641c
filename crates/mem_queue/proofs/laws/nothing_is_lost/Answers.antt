use Rattle.mem_queue.proofs.Conserving.{none_lost}
use Rattle.mem_queue.proofs.laws.nothing_is_lost.Goals as goal

pub returns : goal.returns
returns c = none_lost
