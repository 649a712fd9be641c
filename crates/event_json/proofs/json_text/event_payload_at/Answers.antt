use Rattle.std.proofs.Common.{◌∙◌, sym}
use Rattle.std.proofs.lemmas.Result.{IfOk-weaker}
use Rattle.event_json.proofs.PayloadTexts.{event_payload_is}
use Rattle.event_json.proofs.ReplacedTexts.{text_of-utf8}
use Rattle.event_json.proofs.json_text.event_payload_at.Goals as goal

pub returns-in-Ok : goal.returns-in-Ok
returns-in-Ok c =
    let same = c.in-Ok.ensures.cases.0 ∙ sym (text_of-utf8 c.args.message.now c.in-Ok.ensures.cases.1) in
    record { of_event = IfOk-weaker c.event_text.result _ _ (λ payload is. is ∙ event_payload_is c.args.path.now c.args.offset c.args.message.now c.args.stamp.now _ same) c.event_text.ensures }

pub returns-in_ok-replaced-in-Err : goal.returns-in_ok-replaced-in-Err
returns-in_ok-replaced-in-Err c =
    let same = c.as_str.ensures.value ∙ c.in_ok-replaced-in-Err.ensures in
    record { of_event = IfOk-weaker c.event_text-in-Err.result _ _ (λ payload is. is ∙ event_payload_is c.args.path.now c.args.offset c.args.message.now c.args.stamp.now _ same) c.event_text-in-Err.ensures }
