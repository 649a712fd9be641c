-- What `json` writes of an event's tokens is the text of its fields.
use Rattle.std.proofs.Common.{◌≡◌, ℕ, List, [], ◌++◌, ap, ◌∙◌, append_assoc}
use Rattle.json.specs.Print.{print}
use Rattle.json.specs.Token.{Token}
use Rattle.serde_json.proofs.Texts.{print-outline}
use Rattle.event_tree.specs.Value.{TreeValue}
use Rattle.event_json.specs.Data.{data_of, tokens_of}
use Rattle.event_json.specs.Json.{json_of}
use Rattle.event_json.specs.Payload.{within_bound, payload_of_value}
use Rattle.event_json.proofs.JsonTexts.{value_text}

-- some tokens were written after those that were there, and then some more
pub then : (old written middle new more : List Token) → middle ≡ old ++ written → new ≡ middle ++ more → new ≡ old ++ (written ++ more)
then old written middle new more first next = next ∙ ap (λ (l : List Token). l ++ more) first ∙ append_assoc old written more

pub tokens_text : (v : TreeValue) → print (tokens_of v) ≡ json_of v
tokens_text v = print-outline (data_of v) ∙ value_text v

-- where nothing was written before
pub tokens_payload : (v : TreeValue) (before text : List ℕ) (old new : List Token) → before ≡ [] → old ≡ [] → new ≡ old ++ tokens_of v → text ≡ before ++ print new
    → within_bound text ≡ payload_of_value v
unfolding payload_of_value
tokens_payload v before text old new none fresh are is =
    ap within_bound (is ∙ (λ i. none i ++ print ((are ∙ ap (λ (l : List Token). l ++ tokens_of v) fresh) i)) ∙ tokens_text v)
