use Rattle.std.proofs.Common.{length, refl}
use Rattle.std.specs.Fmt.{styled_decimal}
use Rattle.spool_queue.proofs.Texts.{ten_digits, text_laid}
use Rattle.spool_queue.proofs.text.event_text.Goals as goal

pub returns : goal.returns
returns c =
    text_laid _ c.into_bytes-text.result.items (styled_decimal c.laid_out.result (length c.args.payload.now)) c.args.payload.now 0x65
    (rw c.into_bytes-text.ensures.value c.in_ok-format.ensures.ok) (rw c.laid_out.ensures (ten_digits (length c.args.payload.now)))
    (rw (c.in_ok-extend_from_slice-2.ensures.items, c.in_ok-extend_from_slice.ensures.items) refl)
