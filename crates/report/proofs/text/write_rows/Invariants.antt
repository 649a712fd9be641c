use Rattle.std.proofs.Common.{◌≤◌, drop}
use Rattle.std.specs.List.{flat_map}
use Rattle.report.specs.Report.{file_line}
use Rattle.report.proofs.Writings.{Continues}
use Rattle.report.proofs.text.write_rows.Given as goal

abbrev pub invariant-loop-i : goal.invariant-loop-i
invariant-loop-i g l = record {
  faults : g.S.Sink.faults l.initial.out ≤ g.S.Sink.faults l.out;
  told : Continues (g.S.Sink.written l.initial.out) (flat_map file_line l.rows) (g.S.Sink.written l.out) (flat_map file_line (drop l.i l.rows));
}
