use Rattle.std.proofs.Common.{map}
use Rattle.std.specs.List.{flat_map}
use Rattle.report.specs.Report.{counts_line, file_line, passed_line}
use Rattle.report.proofs.Writings.{writes_failed, writes_then}
use Rattle.report.proofs.text.write_report.Goals as goal

pub returns-in_err-write_rows-clause-told : goal.returns-in_err-write_rows-clause-told
returns-in_err-write_rows-clause-told g c =
    writes_failed _ _ (flat_map file_line c.args.rows.now) _ _ _ c.from_residual.ensures.0 (rw c.in_err-write_rows.was at c.write_rows.ensures.told)

pub returns-in_err-write_passed-clause-told : goal.returns-in_err-write_passed-clause-told
returns-in_err-write_passed-clause-told g c =
    writes_then _ _ _ (flat_map file_line c.args.rows.now) _ _ (rw c.in_ok-write_rows.was at c.write_rows.ensures.told)
    (writes_failed _ _ (flat_map passed_line (map (λ passing. passing.now) c.args.ordered.now)) _ _ _ c.from_residual-in_err-write_passed.ensures.0
    (rw c.in_err-write_passed.was at c.write_passed.ensures.told))

pub returns-in_err-write_parts-clause-told : goal.returns-in_err-write_parts-clause-told
returns-in_err-write_parts-clause-told g c =
    writes_then _ _ _ (flat_map file_line c.args.rows.now) _ _ (rw c.in_ok-write_rows.was at c.write_rows.ensures.told)
    (writes_then _ _ _ (flat_map passed_line (map (λ passing. passing.now) c.args.ordered.now)) _ _ (rw c.in_ok-write_passed.was at c.write_passed.ensures.told)
    (writes_failed _ _ (counts_line c.args.shipped c.args.dropped) _ _ _ c.from_residual-in_err-write_parts.ensures.0
    (rw c.in_err-write_parts.was at c.write_parts.ensures.told)))

pub returns-clause-told : goal.returns-clause-told
returns-clause-told g c =
    writes_then _ _ _ (flat_map file_line c.args.rows.now) _ _ (rw c.in_ok-write_rows.was at c.write_rows.ensures.told)
    (writes_then _ _ _ (flat_map passed_line (map (λ passing. passing.now) c.args.ordered.now)) _ _ (rw c.in_ok-write_passed.was at c.write_passed.ensures.told)
    (writes_then _ _ _ (counts_line c.args.shipped c.args.dropped) _ _ (rw c.in_ok-write_parts.was at c.write_parts.ensures.told)
    c.status_line.ensures.told))
