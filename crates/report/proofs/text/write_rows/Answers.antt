use Rattle.std.proofs.Common.{rules}
use Rattle.report.specs.Report.{file_line}
use Rattle.report.proofs.Eaches.{flat_map_got}
use Rattle.report.proofs.Writings.{continues_failed, continues_then}
use Rattle.report.proofs.text.write_rows.Goals as goal

pub returns-in_err-write_row-clause-told : goal.returns-in_err-write_row-clause-told
returns-in_err-write_row-clause-told g c =
    continues_failed _ _ _ _ _ _ _ _ _ c.from_residual.ensures.0 c.loop-i.invariant.told
    (flat_map_got file_line c.args.rows.now c.loop-i.i c.at.result.now c.at.ensures.at)
    (rw c.in_err-write_row.was at c.write_row.ensures.told)

pub loop-i-preserved : goal.loop-i-preserved
loop-i-preserved g c = record {
  faults = search rules;
  told = continues_then _ _ _ _ _ _ _ c.loop-i.invariant.told
      (flat_map_got file_line c.args.rows.now c.loop-i.i c.at.result.now c.at.ensures.at)
      (rw c.in_ok-write_row.was at c.write_row.ensures.told);
}
