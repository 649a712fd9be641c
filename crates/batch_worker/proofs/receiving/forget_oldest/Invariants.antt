use Rattle.std.proofs.Common.{◌≡◌}
use Rattle.std.specs.VecDeque.{deque_capacity, deque_len}
use Rattle.batch_worker.specs.Receiving.{outs_kept}
use Rattle.batch_worker.proofs.receiving.forget_oldest.Given as goal

abbrev pub invariant-loop-outs : goal.invariant-loop-outs
invariant-loop-outs l = (outs_kept l.outs.items l.kept ≡ outs_kept l.initial.outs.items l.kept) × (deque_capacity l.outs ≡ deque_capacity l.initial.outs)

abbrev pub decreases-loop-outs : goal.decreases-loop-outs
decreases-loop-outs l = deque_len l.outs
