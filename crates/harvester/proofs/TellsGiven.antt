-- What telling the closed event gives, as contracts tell it.
use Rattle.std.proofs.Common.{◌≡◌, ℕ, ◌≤◌, nat_le, Bool, true, false, List, [], ◌∷◌, length, Option, Some, None, IfSome, IsSome, if◌then◌else◌, refl, sym, ap, subst, ◌∙◌, arith}
use Rattle.event_json.specs.Envelope.{envelope_of}
use Rattle.event_json.specs.Payload.{payload_of_value, within_bound}
use Rattle.event_tree.specs.Value.{TreeValue}
use Rattle.line_filter.specs.Verdict.{verdict_of}
use Rattle.multiline_core.specs.declared.group.Group.{Group}
use Rattle.outside.specs.Tails.{TailHistory}
use Rattle.processors_core.specs.Outcome.{Dropped, Left, Outcome, outcome_of}
use Rattle.told_events.specs.Fate.{Fate, ShippedAs, fate_of, fate_of_outcome, fate_of_payload, fate_of_verdict}
use Rattle.told_events.specs.Rules.{Rules}
use Rattle.told_events.specs.Told.{ToldEvent}
use Rattle.wire_base.specs.Extent.{Extent}
use Rattle.wire_base.specs.declared.parcel.TheConstants.{MAX_PAYLOAD}
use Rattle.harvester.specs.declared.fate_rules.EventFate.{EventFate}
use Rattle.harvester.specs.declared.fate_rules.FateRules.{FateRules}
use Rattle.harvester.specs.declared.harvester.Harvester.{Harvester}
use Rattle.harvester.specs.Deciding.{Decides, shown}
use Rattle.harvester.specs.HasTold.{HasTold}
use Rattle.harvester.specs.Held.{Held}
use Rattle.harvester.specs.History.{History, rules_in, with_events, with_present}
use Rattle.harvester.specs.Looked.{AreLookedAt}
use Rattle.harvester.specs.Standing.{IsFateBy, StandsFor, TellsOne, given_path}
use Rattle.harvester.proofs.LookingOn.{tells_more}

-- ---- a payload is not too long

bound_holds : (text payload : List ℕ) → within_bound text ≡ Some payload → length payload ≤ MAX_PAYLOAD
bound_holds text payload is = go (nat_le (length text) MAX_PAYLOAD) refl is
  where
    go : (b : Bool) → nat_le (length text) MAX_PAYLOAD ≡ b → (if b then Some text else None) ≡ Some payload → length payload ≤ MAX_PAYLOAD
    go true fits same =
        let e : text ≡ payload = cc in
        subst (λ (l : List ℕ). length l ≤ MAX_PAYLOAD) e (grind arith)
    go false long same = absurd (let no : None ≡ Some payload = same in cc)

short_payload : (o : Option (List ℕ)) (payload : List ℕ) → ((p : List ℕ) → o ≡ Some p → length p ≤ MAX_PAYLOAD) → ShippedAs payload ≡ fate_of_payload o →
    length payload ≤ MAX_PAYLOAD
short_payload None payload fits is = absurd cc
short_payload (Some p) payload fits is =
    let e : p ≡ payload = cc in
    subst (λ (l : List ℕ). length l ≤ MAX_PAYLOAD) e (fits p refl)

value_fits : (tree : TreeValue) (p : List ℕ) → payload_of_value tree ≡ Some p → length p ≤ MAX_PAYLOAD
unfolding payload_of_value
value_fits tree p is = bound_holds _ p is

short_outcome : (o : Outcome) (payload : List ℕ) → ShippedAs payload ≡ fate_of_outcome o → length payload ≤ MAX_PAYLOAD
short_outcome (Dropped processor) payload is = absurd cc
short_outcome (Left tree) payload is = short_payload (payload_of_value tree) payload (value_fits tree) is

short_verdict : (v : Option ℕ) (o : Outcome) (payload : List ℕ) → ShippedAs payload ≡ fate_of_verdict v (fate_of_outcome o) → length payload ≤ MAX_PAYLOAD
short_verdict (Some rule) o payload is = absurd cc
short_verdict None o payload is = short_outcome o payload is

short_fate : (rules : Rules) (path : List ℕ) (start : ℕ) (message : List ℕ) (now : ℕ) (payload : List ℕ) → ShippedAs payload ≡ fate_of rules path start message now →
    length payload ≤ MAX_PAYLOAD
unfolding fate_of
short_fate rules path start message now payload is =
    short_verdict (verdict_of rules.include rules.exclude message) (outcome_of rules.processors (envelope_of path start message now)) payload is

-- the closed event's, by any rules that decide it
pub payload_fits : (closed : Option Group) → IsSome closed → (compiled : FateRules) (path : List ℕ) (now : ℕ) (told : EventFate × Extent) (payload : List ℕ) →
    shown told.0 ≡ ShippedAs payload → (rules : Rules) → Decides rules compiled →
    IfSome closed (λ group. (r : Rules) → Decides r compiled → IsFateBy r path now told group) → length payload ≤ MAX_PAYLOAD
payload_fits None some compiled path now told payload shows rules decides by = absurd (let no : false ≡ true = some in cc)
payload_fits (Some group) some compiled path now told payload shows rules decides by =
    short_fate rules path group.span.start group.message now payload (sym shows ∙ by rules decides)

module _ {T : Type 0} (numbers : T → Option (ℕ × ℕ)) (told : T → Option TailHistory) (h : History) (old : Harvester T) (has : HasTold numbers told h old)
    (rules : FateRules) (decide : (r : Rules) → Decides r old.rules → Decides r rules) where
  -- with other compiled rules that decide the same
  pub same_told : HasTold numbers told h (record old { rules = rules })
  same_told = record { held = has.held; decides = decide (rules_in h) has.decides; looked = has.looked }

  module _ (reader : Held) where
    told_with : (event : ToldEvent) → StandsFor (with_present (with_events (event ∷ []) h.present) h) reader →
        HasTold numbers told (with_present (with_events (event ∷ []) h.present) h) (record old { reader = reader; rules = rules })
    told_with event stands = record {
      held = stands;
      decides = decide (rules_in h) has.decides;
      looked = go (told old.tail) has.looked;
    }
      where
        go : (o : Option TailHistory) → AreLookedAt (numbers old.tail) h o → AreLookedAt (numbers old.tail) (with_present (with_events (event ∷ []) h.present) h) o
        go None looked = tt
        go (Some earlier) looked = tells_more (numbers old.tail) h earlier looked (event ∷ [])

    -- the closed event was reported with this fate
    pub told_one : (now : ℕ) (fate : EventFate) (span : Extent) → IsSome old.reader.events.closed →
        IfSome old.reader.events.closed (λ group. (r : Rules) → Decides r old.rules →
        IsFateBy r (given_path old.reader.begin.path old.reader.renamed) now (fate, span) group) →
        IfSome old.reader.events.closed (λ group. span ≡ group.span) →
        ((event : ToldEvent) → IfSome old.reader.events.closed (TellsOne h event reader)) → (becomes : Fate) → shown fate ≡ becomes →
        HasTold numbers told (with_present (with_events (record { span = span; path = h.path; now = now; fate = becomes } ∷ []) h.present) h)
        (record old { reader = reader; rules = rules })
    told_one now fate span some by is tells becomes shows =
        let event : ToldEvent = record { span = span; path = h.path; now = now; fate = becomes } in
        told_with event (go old.reader.events.closed some by is (tells event))
      where
        go : (closed : Option Group) → IsSome closed → IfSome closed (λ group. (r : Rules) → Decides r old.rules →
            IsFateBy r (given_path old.reader.begin.path old.reader.renamed) now (fate, span) group) → IfSome closed (λ group. span ≡ group.span) →
            IfSome closed (TellsOne h (record { span = span; path = h.path; now = now; fate = becomes }) reader) →
            StandsFor (with_present (with_events (record { span = span; path = h.path; now = now; fate = becomes } ∷ []) h.present) h) reader
        go None some by is tells = absurd (let no : false ≡ true = some in cc)
        go (Some group) some by is tells =
            tells is (sym shows ∙ by (rules_in h) has.decides
            ∙ ap (λ (p : List ℕ). fate_of (rules_in h) p group.span.start group.message now) has.held.holds.follows.path)
