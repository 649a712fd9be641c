use Rattle.std.proofs.Common.{◌≤◌, length}
use Rattle.spool_queue.proofs.Sinks.{IsPartTaken}
use Rattle.spool_queue.proofs.printing.write_all.Given as goal

abbrev pub invariant-pieces : goal.invariant-pieces
invariant-pieces g l = record {
  faults : g.S.Sink.faults l.initial.out ≤ g.S.Sink.faults l.out;
  part : IsPartTaken (g.S.Sink.written l.initial.out) l.bytes l.left (g.S.Sink.written l.out);
}

abbrev pub decreases-pieces : goal.decreases-pieces
decreases-pieces g l = length l.left
