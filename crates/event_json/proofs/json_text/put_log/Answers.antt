use Rattle.std.proofs.Common.{ℕ, List, [], ◌∷◌, ◌++◌, ap, ◌∙◌}
use Rattle.std.proofs.lemmas.Result.{on_ok_weaker}
use Rattle.json.specs.Token.{string}
use Rattle.event_json.proofs.TokenTexts.{then}
use Rattle.event_json.proofs.json_text.put_log.Goals as goal

pub returns-clause-tokens : goal.returns-clause-tokens
returns-clause-tokens c =
    let old = c.args.writer.now.tokens in
    let begun = c.in_ok-begin_object.ensures.ok in
    let file = then old _ _ _ _ begun c.in_ok-key.ensures.ok in
    let inner = then old _ _ _ _ file c.in_ok-begin_object-2.ensures.ok in
    let path = then old _ _ _ _ inner c.in_ok-key-2.ensures.ok in
    let named = then old _ _ _ _ path (c.in_ok-string.ensures.ok ∙ ap (λ (s : List ℕ). c.key-2.new.self.tokens ++ string s ∷ []) c.as_str.ensures) in
    let closed = then old _ _ _ _ named c.in_ok-end_object.ensures.ok in
    let offset = then old _ _ _ _ closed c.in_ok-key-3.ensures.ok in
    let placed = then old _ _ _ _ offset c.in_ok-u64.ensures.ok in
    on_ok_weaker c.end_object-2.result (λ ended. then old _ _ _ _ placed ended) c.end_object-2.ensures.ok
