-- Processors one after another.
use Rattle.std.proofs.Common.{◌≡◌, ℕ, suc, ◌+◌, Bool, true, cond, List, [], ◌∷◌, ◌++◌, length, Option, Some, None, inl, inr, refl, sym, ap, subst, ◌∙◌, arith}
use Rattle.std.proofs.lemmas.Bool.{cases_Bool}
use Rattle.event_tree.specs.Value.{TreeValue}
use Rattle.event_tree.specs.declared.condition_rule.ConditionRule.{ConditionRule}
use Rattle.event_tree.specs.declared.processor_rule.ProcessorRule.{ProcessorRule}
use Rattle.event_tree.specs.declared.processor_rule.ProcessorRule.TheVariants.{DropEvent, DropFields, AddFields, AddTags, Rename}
use Rattle.conditions.specs.Holds.{holds}
use Rattle.processors_core.specs.Outcome.{IsFirstDrop, Outcome, Dropped, Left, after_one, going_on, outcome_from, outcome_of}

-- the number, counted from a later one on
abbrev counted_from : ℕ → Outcome → Outcome
counted_from first (Dropped number) = Dropped (first + number)
counted_from first (Left tree) = Left tree

counted_twice : (first : ℕ) (outcome : Outcome) → counted_from (first + 1) outcome ≡ counted_from first (counted_from 1 outcome)
counted_twice first (Left tree) = refl
counted_twice first (Dropped number) =
    let same : first + 1 + number ≡ first + (1 + number) = omega arith in
    ap (λ (n : ℕ). Dropped n) same

from_a_number : (first : ℕ) (rules : List ProcessorRule) (tree : TreeValue) → outcome_from first rules tree ≡ counted_from first (outcome_from 0 rules tree)
from_a_number first [] tree = refl
from_a_number first (rule ∷ rules) tree = go (after_one rule tree) (λ after. (from_a_number (first + 1) rules after, from_a_number 1 rules after))
  where
    go : (after : Option TreeValue) →
        ((next : TreeValue) → (outcome_from (first + 1) rules next ≡ counted_from (first + 1) (outcome_from 0 rules next))
        × (outcome_from 1 rules next ≡ counted_from 1 (outcome_from 0 rules next))) →
        going_on first after (λ next. outcome_from (first + 1) rules next) ≡ counted_from first (going_on 0 after (λ next. outcome_from 1 rules next))
    go None later =
        let same : first ≡ first + 0 = omega arith in
        ap (λ (n : ℕ). Dropped n) same
    go (Some next) later =
        (later next).0 ∙ counted_twice first (outcome_from 0 rules next) ∙ ap (counted_from first) (sym (later next).1)

-- ---- more processors

abbrev then_more : ℕ → List ProcessorRule → Outcome → Outcome
then_more first more (Dropped number) = Dropped number
then_more first more (Left tree) = outcome_from first more tree

on : (first : ℕ) (rules more : List ProcessorRule) (tree : TreeValue) →
    outcome_from first (rules ++ more) tree ≡ then_more (first + length rules) more (outcome_from first rules tree)
on first [] more tree =
    let same : first ≡ first + 0 = omega arith in
    ap (λ (n : ℕ). outcome_from n more tree) same
on first (rule ∷ rules) more tree = go (after_one rule tree) (λ after. on (first + 1) rules more after)
  where
    count : first + 1 + length rules ≡ first + suc (length rules)
    count = omega arith

    go : (after : Option TreeValue) →
        ((next : TreeValue) → outcome_from (first + 1) (rules ++ more) next ≡ then_more (first + 1 + length rules) more (outcome_from (first + 1) rules next)) →
        going_on first after (λ next. outcome_from (first + 1) (rules ++ more) next)
        ≡ then_more (first + suc (length rules)) more (going_on first after (λ next. outcome_from (first + 1) rules next))
    go None later = refl
    go (Some next) later = later next ∙ ap (λ (n : ℕ). then_more n more (outcome_from (first + 1) rules next)) count

pub on_what_is_left : (rules more : List ProcessorRule) (tree left : TreeValue) → outcome_of rules tree ≡ Left left →
    outcome_of (rules ++ more) tree ≡ outcome_from (length rules) more left
on_what_is_left rules more tree left is =
    let same : 0 + length rules ≡ length rules = omega arith in
    on 0 rules more tree ∙ ap (λ (o : Outcome). then_more (0 + length rules) more o) is ∙ ap (λ (n : ℕ). outcome_from n more left) same

pub stays_dropped : (rules more : List ProcessorRule) (tree : TreeValue) (number : ℕ) → outcome_of rules tree ≡ Dropped number →
    outcome_of (rules ++ more) tree ≡ Dropped number
stays_dropped rules more tree number is = on 0 rules more tree ∙ ap (λ (o : Outcome). then_more (0 + length rules) more o) is

-- ---- the first that drops

abbrev number_of : Outcome → ℕ
number_of (Dropped number) = number
number_of (Left tree) = 0

-- a processor that drops the event is a `drop_event` whose condition holds
record Drops (rule : ProcessorRule) (tree : TreeValue) : Type 0 where
  when : ConditionRule
  is : rule ≡ DropEvent when
  condition_holds : holds when tree ≡ true

drops : (rule : ProcessorRule) (tree : TreeValue) → after_one rule tree ≡ None → Drops rule tree
unfolding after_one
drops (DropEvent when) tree none = elim (cases_Bool (holds when tree)) [
  | inl holding ↦ record { when = when; is = refl; condition_holds = holding }
  | inr failing ↦
      let some : None ≡ Some tree = sym none ∙ ap (λ (b : Bool). cond b None (Some tree)) failing in
      absurd cc
]
drops (DropFields paths ignore_missing when) tree none = absurd cc
drops (AddFields pairs target when) tree none = absurd cc
drops (AddTags tags target when) tree none = absurd cc
drops (Rename pairs ignore_missing fail_on_error when) tree none = absurd cc

one_more : (rule : ProcessorRule) (rules : List ProcessorRule) (tree next : TreeValue) (number : ℕ) → after_one rule tree ≡ Some next →
    IsFirstDrop rules next number → IsFirstDrop (rule ∷ rules) tree (suc number)
one_more rule rules tree next number after first = record {
  front = rule ∷ first.front;
  when = first.when;
  behind = first.behind;
  left = first.left;
  rules_are = ap (λ (l : List ProcessorRule). rule ∷ l) first.rules_are;
  number_is = ap suc first.number_is;
  before = ap (λ (o : Option TreeValue). going_on 0 o (λ t. outcome_from 1 first.front t)) after ∙ from_a_number 1 first.front next
      ∙ ap (counted_from 1) first.before;
  condition_holds = first.condition_holds;
}

pub first_drop : (rules : List ProcessorRule) (tree : TreeValue) (number : ℕ) → outcome_of rules tree ≡ Dropped number → IsFirstDrop rules tree number
first_drop [] tree number is = absurd cc
first_drop (rule ∷ rules) tree number is = go (after_one rule tree) refl is (λ next later. first_drop rules next later)
  where
    found : (next : TreeValue) → after_one rule tree ≡ Some next → (later : Outcome) → outcome_from 0 rules next ≡ later →
        counted_from 1 later ≡ Dropped number → ((n : ℕ) → outcome_from 0 rules next ≡ Dropped n → IsFirstDrop rules next n) → IsFirstDrop (rule ∷ rules) tree number
    found next after (Left left) same counted earlier = absurd cc
    found next after (Dropped n) same counted earlier =
        let e : 1 + n ≡ number = ap number_of counted in
        let m : suc n ≡ number = omega (arith, e) in
        subst (λ (k : ℕ). IsFirstDrop (rule ∷ rules) tree k) m (one_more rule rules tree next n after (earlier n same))

    go : (after : Option TreeValue) → after_one rule tree ≡ after → going_on 0 after (λ next. outcome_from 1 rules next) ≡ Dropped number →
        ((next : TreeValue) (n : ℕ) → outcome_from 0 rules next ≡ Dropped n → IsFirstDrop rules next n) → IsFirstDrop (rule ∷ rules) tree number
    go None same dropped later =
        let drop = drops rule tree same in
        record {
          front = [];
          when = drop.when;
          behind = rules;
          left = tree;
          rules_are = ap (λ (r : ProcessorRule). r ∷ rules) drop.is;
          number_is = ap number_of dropped;
          before = refl;
          condition_holds = drop.condition_holds;
        }
    go (Some next) same dropped later = found next same (outcome_from 0 rules next) refl (sym (from_a_number 1 rules next) ∙ dropped) (λ n is. later next n is)

pub drops_first : (rules : List ProcessorRule) (tree : TreeValue) (number : ℕ) → IsFirstDrop rules tree number → outcome_of rules tree ≡ Dropped number
unfolding after_one
drops_first rules tree number first =
    ap (λ (l : List ProcessorRule). outcome_of l tree) first.rules_are
    ∙ on_what_is_left first.front (DropEvent first.when ∷ first.behind) tree first.left first.before
    ∙ ap (λ (b : Bool). going_on (length first.front) (cond b None (Some first.left)) (λ t. outcome_from (length first.front + 1) first.behind t)) first.condition_holds
    ∙ ap (λ (n : ℕ). Dropped n) first.number_is
