use Rattle.std.proofs.Common.{◌∙◌, ◌+◌, refl, arith}
use Rattle.std.specs.Fmt.{styled_decimal}
use Rattle.registry_log.proofs.Printed.{record_printed, seven_digits}
use Rattle.registry_log.proofs.area_text.AreaText.close_record.Goals as goal

pub returns-clause-text : goal.returns-clause-text
returns-clause-text c =
    let size = c.len.result + 1 in
    record_printed c.args.self.now.text.items _ c.as_bytes.result.now (styled_decimal c.laid_out.result size) c.args.self.now.body.items size
    (c.as_bytes.ensures.value ∙ c.in_ok-head.ensures.ok) (rw c.laid_out.ensures (seven_digits size)) (omega arith)
    (rw (c.in_ok-extend_from_slice-3.ensures.items, c.in_ok-extend_from_slice-2.ensures.items, c.in_ok-extend_from_slice.ensures.items, c.deref.ensures.value) refl)
