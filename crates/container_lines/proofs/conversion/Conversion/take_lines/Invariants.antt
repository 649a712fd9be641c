use Rattle.std.proofs.Common.{◌-◌, ◌≤◌}
use Rattle.line_cutter.specs.Cutting.{fed_to}
use Rattle.container_lines.proofs.Conversions.{GoesOn}
use Rattle.container_lines.proofs.conversion.Conversion.take_lines.Given as goal

abbrev pub invariant-loop-line : goal.invariant-loop-line
invariant-loop-line g l = record {
  faults : g.S.Sink.faults l.initial.out ≤ g.S.Sink.faults l.out;
  converts : GoesOn (g.S.Sink.written l.initial.out) l.initial.self (g.S.Sink.written l.out) l.self;
}

abbrev pub decreases-loop-line : goal.decreases-loop-line
decreases-loop-line g l = fed_to l.self.cutter - l.self.cutter.start
