use Rattle.std.proofs.Common.{◌≤◌, drop, map}
use Rattle.std.specs.List.{flat_map}
use Rattle.report.specs.Report.{passed_line}
use Rattle.report.proofs.Writings.{Continues}
use Rattle.report.proofs.text.write_passed.Given as goal

abbrev pub invariant-loop-passing : goal.invariant-loop-passing
invariant-loop-passing g l = record {
  faults : g.S.Sink.faults l.initial.out ≤ g.S.Sink.faults l.out;
  told : Continues (g.S.Sink.written l.initial.out) (flat_map passed_line (map (λ passing. passing.now) l.ordered)) (g.S.Sink.written l.out) (flat_map passed_line (map (λ passing. passing.now) (drop l.passing-index l.ordered)));
}
