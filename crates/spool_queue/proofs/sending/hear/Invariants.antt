use Rattle.spool_queue.proofs.Hearings.{HearsOn}
use Rattle.spool_queue.proofs.sending.hear.Given as goal

abbrev pub invariant-loop-byte : goal.invariant-loop-byte
invariant-loop-byte l = HearsOn l.initial.window l.window l.bytes l.byte-index
