use Rattle.std.proofs.Common.{◌≡◌, ◌≤◌, length}
use Rattle.container_lines.specs.declared.run.TheConstants.{PIECE}
use Rattle.container_lines.proofs.Readings.{IsReading, at}
use Rattle.container_lines.proofs.run.read_to_end.Given as goal

abbrev pub invariant-loop : goal.invariant-loop
invariant-loop g l = record {
  able : (goal.iterator-loop g).can_next l.iterator' × (goal.iterator-loop g).is_finite l.iterator';
  source_faults : g.R.Source.faults l.initial.source ≤ g.R.Source.faults l.source;
  sink_faults : g.S.Sink.faults l.initial.out ≤ g.S.Sink.faults l.out;
  piece : length l.piece ≡ PIECE;
  reading : IsReading (g.R.Source.left l.initial.source) (g.R.Source.left l.source) (at (g.S.Sink.written l.initial.out) l.initial.log) (at (g.S.Sink.written l.out) l.log);
}
