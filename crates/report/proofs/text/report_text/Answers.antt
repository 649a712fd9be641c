use Rattle.std.proofs.Common.{rules, map}
use Rattle.report.proofs.Ordered.{one_report}
use Rattle.report.proofs.text.report_text.Goals as goal

pub returns-in-Ok-clause-no_other : goal.returns-in-Ok-clause-no_other
returns-in-Ok-clause-no_other c = λ other is.
    one_report c.args.rows.now c.args.passed.now (map (λ passing. passing.now) c.in_ok-ordered.ordered.items) c.args.shipped c.args.dropped c.args.status.now c.into_blob.result other (search rules) (search rules) is
