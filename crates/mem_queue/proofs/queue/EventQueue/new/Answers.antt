use Rattle.mem_queue.proofs.Passing.{sides}
use Rattle.mem_queue.proofs.queue.EventQueue.new.Goals as goal

pub another-other-requires-clause-rule : goal.another-other-requires-clause-rule
another-other-requires-clause-rule c = sides _ _
