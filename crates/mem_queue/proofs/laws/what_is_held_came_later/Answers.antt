use Rattle.mem_queue.proofs.Conserving.{held_came_later}
use Rattle.mem_queue.proofs.laws.what_is_held_came_later.Goals as goal

pub returns : goal.returns
returns c = held_came_later
