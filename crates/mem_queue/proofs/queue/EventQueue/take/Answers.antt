use Rattle.mem_queue.proofs.Moves.{takes, allows}
use Rattle.mem_queue.proofs.queue.EventQueue.take.Goals as goal

pub pop_as-requires-clause-rule : goal.pop_as-requires-clause-rule
pop_as-requires-clause-rule g c = (takes _ _ c.pass.invariant.may, allows _ _)
