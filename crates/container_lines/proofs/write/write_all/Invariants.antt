use Rattle.std.proofs.Common.{◌≤◌, length}
use Rattle.container_lines.specs.Output.{StandsOrWaits}
use Rattle.container_lines.proofs.write.write_all.Given as goal

abbrev pub invariant-loop-left : goal.invariant-loop-left
invariant-loop-left g l = record {
  faults : g.S.Sink.faults l.initial.out ≤ g.S.Sink.faults l.out;
  told : StandsOrWaits (g.S.Sink.written l.initial.out) l.bytes (g.S.Sink.written l.out) l.left;
}

abbrev pub decreases-loop-left : goal.decreases-loop-left
decreases-loop-left g l = length l.left
