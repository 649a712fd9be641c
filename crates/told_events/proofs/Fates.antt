-- The fate of an event by the first rule that applies.
use Rattle.std.proofs.Common.{◌≡◌, ◌≢◌, ℕ, ◌+◌, List, [], ◌∷◌, Option, Some, None, refl, ap, ◌∙◌}
use Rattle.event_json.specs.Envelope.{envelope_of}
use Rattle.event_json.specs.Payload.{payload_of_event, payload_of_value}
use Rattle.event_tree.specs.Value.{TreeValue}
use Rattle.event_tree.specs.declared.group_rule.GroupRule.{GroupRule}
use Rattle.event_tree.specs.declared.line_rule.LineRule.{LineRule}
use Rattle.line_filter.specs.Verdict.{verdict_of}
use Rattle.processors_core.specs.Outcome.{Outcome, Dropped, Left, outcome_of}
use Rattle.told_events.specs.Fate.{DroppedBy, Fate, fate_of, fate_of_outcome, fate_of_payload, fate_of_verdict}
use Rattle.told_events.specs.Rules.{Rules}

-- what comes later than the message's rules
abbrev later_fate : Rules → List ℕ → ℕ → List ℕ → ℕ → Fate
later_fate rules path start message now = fate_of_outcome (outcome_of rules.processors (envelope_of path start message now))

pub by_message : (rules : Rules) (path : List ℕ) (start : ℕ) (message : List ℕ) (now rule : ℕ) → verdict_of rules.include rules.exclude message ≡ Some rule →
    fate_of rules path start message now ≡ DroppedBy rule
unfolding fate_of
by_message rules path start message now rule is = ap (λ (v : Option ℕ). fate_of_verdict v (later_fate rules path start message now)) is

by_outcome : (rules : Rules) (path : List ℕ) (start : ℕ) (message : List ℕ) (now : ℕ) (outcome : Outcome) → verdict_of rules.include rules.exclude message ≡ None →
    outcome_of rules.processors (envelope_of path start message now) ≡ outcome → fate_of rules path start message now ≡ fate_of_outcome outcome
unfolding fate_of
by_outcome rules path start message now outcome kept is =
    ap (λ (v : Option ℕ). fate_of_verdict v (later_fate rules path start message now)) kept ∙ ap fate_of_outcome is

pub by_processor : (rules : Rules) (path : List ℕ) (start : ℕ) (message : List ℕ) (now processor : ℕ) → verdict_of rules.include rules.exclude message ≡ None →
    outcome_of rules.processors (envelope_of path start message now) ≡ Dropped processor → fate_of rules path start message now ≡ DroppedBy (10 + processor)
by_processor rules path start message now processor kept is = by_outcome rules path start message now (Dropped processor) kept is

pub by_payload : (rules : Rules) (path : List ℕ) (start : ℕ) (message : List ℕ) (now : ℕ) (tree : TreeValue) (payload : Option (List ℕ)) →
    verdict_of rules.include rules.exclude message ≡ None → outcome_of rules.processors (envelope_of path start message now) ≡ Left tree →
    payload_of_value tree ≡ payload → fate_of rules path start message now ≡ fate_of_payload payload
by_payload rules path start message now tree payload kept left is = by_outcome rules path start message now (Left tree) kept left ∙ ap fate_of_payload is

none_drops : (message : List ℕ) → message ≢ [] → verdict_of [] [] message ≡ None
unfolding verdict_of
none_drops [] some = absurd (some refl)
none_drops (byte ∷ bytes) some = refl

pub without_rules : (lines : LineRule) (events : GroupRule) (path : List ℕ) (start : ℕ) (message : List ℕ) (now : ℕ) → message ≢ [] →
    fate_of (record { lines = lines; events = events; include = []; exclude = []; processors = [] }) path start message now
    ≡ fate_of_payload (payload_of_event path start message now)
unfolding payload_of_event
without_rules lines events path start message now some =
    by_payload (record { lines = lines; events = events; include = []; exclude = []; processors = [] }) path start message now
    (envelope_of path start message now) (payload_of_value (envelope_of path start message now)) (none_drops message some) refl refl
