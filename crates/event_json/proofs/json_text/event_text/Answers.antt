use Rattle.std.proofs.Common.{ℕ, pos, List, [], ◌∷◌, ◌++◌, ap, ◌∙◌}
use Rattle.json.specs.Token.{string}
use Rattle.event_json.specs.Envelope.{event_fields}
use Rattle.event_json.specs.Moment.{moment_text}
use Rattle.event_json.proofs.TokenTexts.{then, tokens_payload}
use Rattle.event_json.proofs.json_text.event_text.Goals as goal

pub returns : goal.returns
returns c =
    let old = c.new-writer.result.tokens in
    let begun = c.in_ok-begin_object.ensures.ok in
    let timestamp = then old _ _ _ _ begun c.in_ok-key.ensures.ok in
    let timed = then old _ _ _ _ timestamp (c.in_ok-string.ensures.ok ∙ ap (λ (s : List ℕ). c.key.new.self.tokens ++ string s ∷ []) c.text.ensures) in
    let input = then old _ _ _ _ timed c.in_ok-key-2.ensures.ok in
    let put = then old _ _ _ _ input c.in_ok-put_input.ensures.tokens in
    let log = then old _ _ _ _ put c.in_ok-key-3.ensures.ok in
    let logged = then old _ _ _ _ log c.in_ok-put_log.ensures.tokens in
    let message = then old _ _ _ _ logged c.in_ok-key-4.ensures.ok in
    let told = then old _ _ _ _ message c.in_ok-string-2.ensures.ok in
    let ended = then old _ _ _ _ told c.in_ok-end_object.ensures.ok in
    let before =
    c.end_object.ensures.room.0 ∙ c.string-2.ensures.room.0 ∙ c.key-4.ensures.room.0 ∙ c.put_log.ensures.before ∙ c.key-3.ensures.room.0
    ∙ c.put_input.ensures.before ∙ c.key-2.ensures.room.0 ∙ c.string.ensures.room.0 ∙ c.key.ensures.room.0 ∙ c.begin_object.ensures.room.0
    ∙ c.new-writer.ensures.before ∙ c.in_ok-with_capacity.ensures.items in
    let v = event_fields (moment_text c.args.stamp.now) c.args.path.now (pos c.args.offset) c.args.message.now in
    c.bounded.ensures ∙ tokens_payload v _ _ _ _ before c.new-writer.ensures.tokens ended c.into_inner.ensures.items
