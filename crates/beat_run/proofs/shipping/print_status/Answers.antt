use Rattle.std.proofs.Common.{inr, refl}
use Rattle.beat_run.proofs.Printings.{front_printed, status_printed}
use Rattle.beat_run.proofs.shipping.print_status.Goals as goal

pub returns-in-Ok-clause-told : goal.returns-in-Ok-clause-told
returns-in-Ok-clause-told g c = status_printed _ c.args.status _ c.requires.without_report (rw c.in-Ok.is at c.status_line.ensures.told)

pub returns-in-Err-clause-told : goal.returns-in-Err-clause-told
returns-in-Err-clause-told g c = front_printed _ _ _ _ (inr (c.args.status, (c.requires.without_report, refl))) (rw c.in-Err.is at c.status_line.ensures.told)
