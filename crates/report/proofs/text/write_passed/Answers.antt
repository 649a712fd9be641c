use Rattle.std.proofs.Common.{rules}
use Rattle.report.specs.Report.{passed_line}
use Rattle.report.proofs.Eaches.{flat_map-map_at}
use Rattle.report.proofs.Writings.{continues_failed, continues_then}
use Rattle.report.proofs.text.write_passed.Goals as goal

pub returns-in_err-write_parts-clause-told : goal.returns-in_err-write_parts-clause-told
returns-in_err-write_parts-clause-told g c =
    continues_failed _ _ _ _ _ _ _ _ _ c.from_residual.ensures.0 c.loop-passing.invariant.told
    (flat_map-map_at passed_line (λ passing. passing.now) c.args.ordered.now c.loop-passing.passing-index c.passing-item.result c.loop-passing-test.true c.passing-item.is)
    (rw c.in_err-write_parts.was at (rw c.name.ensures at c.write_parts.ensures.told))

pub loop-passing-preserved : goal.loop-passing-preserved
loop-passing-preserved g c = record {
  faults = search rules;
  told = continues_then _ _ _ _ _ _ _ c.loop-passing.invariant.told
      (flat_map-map_at passed_line (λ passing. passing.now) c.args.ordered.now c.loop-passing.passing-index c.passing-item.result c.loop-passing-test.true c.passing-item.is)
      (rw c.in_ok-write_parts.was at (rw c.name.ensures at c.write_parts.ensures.told));
}
