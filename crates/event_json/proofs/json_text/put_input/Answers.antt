use Rattle.std.proofs.lemmas.Result.{on_ok_weaker}
use Rattle.event_json.proofs.TokenTexts.{then}
use Rattle.event_json.proofs.json_text.put_input.Goals as goal

pub returns-clause-tokens : goal.returns-clause-tokens
returns-clause-tokens c =
    let old = c.args.writer.now.tokens in
    let begun = c.in_ok-begin_object.ensures.ok in
    let keyed = then old _ _ _ _ begun c.in_ok-key.ensures.ok in
    let told = then old _ _ _ _ keyed c.in_ok-string.ensures.ok in
    on_ok_weaker c.end_object.result (λ ended. then old _ _ _ _ told ended) c.end_object.ensures.ok
