use Rattle.std.proofs.Common.{refl, arith}
use Rattle.std.specs.Fmt.{styled_decimal}
use Rattle.registry_log.proofs.Printed.{area_printed, twenty_digits}
use Rattle.registry_log.proofs.Started.{started_is_opened}
use Rattle.registry_log.proofs.area_text.area_text.Goals as goal

pub returns-clause-spelled : goal.returns-clause-spelled
returns-clause-spelled c =
    area_printed c.args.generation c.args.rows.now _ c.into_bytes-header.result.items (styled_decimal c.laid_out.result c.args.generation)
    (rw c.into_bytes-header.ensures.value c.in_ok-format.ensures.ok) (rw c.laid_out.ensures (twenty_digits c.args.generation))
    (rw (c.in_ok-push.ensures.items, c.in_ok-text.ensures.written) refl)

pub returns-clause-opened : goal.returns-clause-opened
returns-clause-opened c = started_is_opened c.args.generation c.args.rows.now c.requires.generation (omega arith) c.in_ok-text.ensures.in_order c.in_ok-text.ensures.stored c.requires.rows
