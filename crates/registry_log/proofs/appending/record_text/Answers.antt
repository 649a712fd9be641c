use Rattle.std.proofs.Common.{length, refl}
use Rattle.std.specs.Fmt.{styled_decimal}
use Rattle.registry_log.proofs.Printed.{seven_digits, text_printed}
use Rattle.registry_log.proofs.appending.record_text.Goals as goal

pub returns : goal.returns
returns c =
    text_printed _ c.into_bytes-text.result.items (styled_decimal c.laid_out.result (length c.args.body.now)) c.args.body.now (length c.args.body.now)
    (rw c.into_bytes-text.ensures.value c.in_ok-format.ensures.ok) (rw c.laid_out.ensures (seven_digits (length c.args.body.now))) refl
    (rw (c.in_ok-extend_from_slice-2.ensures.items, c.in_ok-extend_from_slice.ensures.items) refl)
