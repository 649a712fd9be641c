use Rattle.batch_worker.proofs.Feeding.{FeedsOn}
use Rattle.batch_worker.proofs.feed.feed.Given as goal

abbrev pub invariant-loop-byte : goal.invariant-loop-byte
invariant-loop-byte l = FeedsOn l.initial.window l.window l.bytes l.byte-index
