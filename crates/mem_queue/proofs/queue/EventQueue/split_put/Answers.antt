use Rattle.mem_queue.proofs.Passing.{halves}
use Rattle.mem_queue.proofs.queue.EventQueue.split_put.Goals as goal

pub another-requires-clause-rule : goal.another-requires-clause-rule
another-requires-clause-rule c = halves _ _
