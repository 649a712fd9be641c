use Rattle.std.proofs.Common.{◌≤◌, length}
use Rattle.lumber_answers.proofs.Sending.{IsPartWritten}
use Rattle.lumber_answers.proofs.streams.write_all.Given as goal

abbrev pub invariant-loop-left : goal.invariant-loop-left
invariant-loop-left g l = record {
  faults : g.S.Sink.faults l.initial.out ≤ g.S.Sink.faults l.out;
  part : IsPartWritten (g.S.Sink.written l.initial.out) l.bytes l.left (g.S.Sink.written l.out);
}

abbrev pub decreases-loop-left : goal.decreases-loop-left
decreases-loop-left g l = length l.left
