use Rattle.mem_queue.proofs.Conserving.{none_twice}
use Rattle.mem_queue.proofs.laws.nothing_comes_twice.Goals as goal

pub returns : goal.returns
returns c = none_twice
