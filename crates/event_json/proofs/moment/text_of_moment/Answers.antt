use Rattle.std.proofs.Common.{ap, ◌∙◌, ◌≡◌, ◌*ℤ◌, pos, w64, arith, to_z}
use Rattle.std.proofs.lemmas.Int.{to_z_pos}
use Rattle.jiff_core.specs.declared.timestamp.Timestamp.{Timestamp}
use Rattle.jiff_core.specs.DateTime.{civil_nanos}
use Rattle.event_json.proofs.MomentTexts.{text_printed}
use Rattle.event_json.proofs.moment.text_of_moment.Goals as goal

pub returns : goal.returns
returns c =
    let ms = c.args.moment.0 in
    let printer = c.precision-printer.result in
    let printed = c.timestamp_text.ensures in
    let options = c.precision-printer.ensures in
    let fresh = c.new.ensures in
    let as_signed : to_z w64 ms ≡ pos ms = to_z_pos w64 ms (omega arith) in
    let nanos : civil_nanos printed.0 ≡ pos ms *ℤ pos 1_000_000 =
    printed.1 ∙ ap (λ (t : Timestamp). t.nanosecond) c.to_plain.ensures ∙ c.in-Ok.ensures.value ∙ ap (λ z. z *ℤ pos 1_000_000) as_signed in
    text_printed ms printed.0 printer.lowercase printer.separator printer.precision _
    (ap (λ o. o.0) options ∙ ap (λ o. o.0) fresh) (ap (λ o. o.1) options ∙ ap (λ o. o.1) fresh) (ap (λ o. o.2) options) nanos printed.2
