-- Reported events after others, and their spans.
use Rattle.std.proofs.Common.{◌≡◌, ◌⊎◌, ℕ, Bool, true, eqb, List, [], ◌∷◌, ◌++◌, inl, inr, refl}
use Rattle.std.specs.List.{All, AllByRecursion, Contains, list_any}
use Rattle.std.proofs.lemmas.Bool.{eq-eqb}
use Rattle.std.proofs.lemmas.List.Elements.{All-contains}
use Rattle.event_tree.specs.declared.group_rule.GroupRule.{GroupRule}
use Rattle.event_tree.specs.declared.line_rule.LineRule.{LineRule}
use Rattle.multiline_core.specs.Partition.{AreAdjoiningSpans, IsFlushedEvent, IsNaturalEvent, IsPartition}
use Rattle.multiline_core.specs.Rule.{IsGroupRule}
use Rattle.ship_core.proofs.Members.{there_any}
use Rattle.ship_core.specs.CoveredEnd.{Adjoin, last_end}
use Rattle.wire_base.specs.Extent.{Extent}
use Rattle.told_events.specs.Rules.{Rules}
use Rattle.told_events.specs.Told.{AreTold, HasFate, ToldEvent, spans_of}

adjoin : (start : ℕ) (spans : List Extent) → AreAdjoiningSpans start spans → Adjoin start spans
adjoin start [] are = tt
adjoin start (span ∷ spans) are = (are.0, are.1, adjoin span.end spans are.2)

pub partition_behind : (rules : Rules) (licences life : List ℕ) (start : ℕ) (told more : List ToldEvent) →
    IsPartition rules.lines rules.events (λ place. Contains licences place) life start (spans_of told) →
    IsPartition rules.lines rules.events (λ place. Contains licences place) life (last_end start (spans_of told)) (spans_of more) →
    IsPartition rules.lines rules.events (λ place. Contains licences place) life start (spans_of (told ++ more))
partition_behind rules licences life start [] more first second = second
partition_behind rules licences life start (one ∷ told) more first second =
    (first.0, first.1, partition_behind rules licences life one.span.end told more first.2 second)

pub partition_front : (rules : Rules) (licences life : List ℕ) (start : ℕ) (told more : List ToldEvent) →
    IsPartition rules.lines rules.events (λ place. Contains licences place) life start (spans_of (told ++ more)) →
    IsPartition rules.lines rules.events (λ place. Contains licences place) life start (spans_of told)
partition_front rules licences life start [] more all = tt
partition_front rules licences life start (one ∷ told) more all =
    (all.0, all.1, partition_front rules licences life one.span.end told more all.2)

pub partition_others : (rules : Rules) (licences life : List ℕ) (start : ℕ) (told more : List ToldEvent) →
    IsPartition rules.lines rules.events (λ place. Contains licences place) life start (spans_of (told ++ more)) →
    IsPartition rules.lines rules.events (λ place. Contains licences place) life (last_end start (spans_of told)) (spans_of more)
partition_others rules licences life start [] more all = all
partition_others rules licences life start (one ∷ told) more all = partition_others rules licences life one.span.end told more all.2

pub all_behind : {A : Type 0} (P : A → Type 0) (xs ys : List A) → AllByRecursion P xs → AllByRecursion P ys → AllByRecursion P (xs ++ ys)
all_behind P [] ys first second = second
all_behind P (x ∷ xs) ys first second = (first.0, all_behind P xs ys first.1 second)

pub all_front : {A : Type 0} (P : A → Type 0) (xs ys : List A) → AllByRecursion P (xs ++ ys) → AllByRecursion P xs
all_front P [] ys all = tt
all_front P (x ∷ xs) ys all = (all.0, all_front P xs ys all.1)

pub all_others : {A : Type 0} (P : A → Type 0) (xs ys : List A) → AllByRecursion P (xs ++ ys) → AllByRecursion P ys
all_others P [] ys all = all
all_others P (x ∷ xs) ys all = all_others P xs ys all.1

pub behind : (rules : Rules) (licences life : List ℕ) (start : ℕ) (told more : List ToldEvent) → AreTold rules licences life start told →
    AreTold rules licences life (last_end start (spans_of told)) more → AreTold rules licences life start (told ++ more)
behind rules licences life start told more first second = record {
  partition = partition_behind rules licences life start told more first.partition second.partition;
  fates = all_behind (HasFate rules life) told more first.fates second.fates;
}

pub front : (rules : Rules) (licences life : List ℕ) (start : ℕ) (told more : List ToldEvent) → AreTold rules licences life start (told ++ more) →
    AreTold rules licences life start told
front rules licences life start told more all = record {
  partition = partition_front rules licences life start told more all.partition;
  fates = all_front (HasFate rules life) told more all.fates;
}

pub others : (rules : Rules) (licences life : List ℕ) (start : ℕ) (told more : List ToldEvent) → AreTold rules licences life start (told ++ more) →
    AreTold rules licences life (last_end start (spans_of told)) more
others rules licences life start told more all = record {
  partition = partition_others rules licences life start told more all.partition;
  fates = all_others (HasFate rules life) told more all.fates;
}

widened : (rules : Rules) (licences more life : List ℕ) → ((place : ℕ) → Contains licences place → Contains more place) → (start : ℕ) (spans : List Extent) →
    IsPartition rules.lines rules.events (λ place. Contains licences place) life start spans →
    IsPartition rules.lines rules.events (λ place. Contains more place) life start spans
widened rules licences more life wider start [] all = tt
widened rules licences more life wider start (span ∷ spans) all = (all.0, go all.1, widened rules licences more life wider span.end spans all.2)
  where
    go : IsNaturalEvent rules.lines rules.events life start span.end ⊎ (IsFlushedEvent rules.lines rules.events life start span.end × Contains licences span.end) →
        IsNaturalEvent rules.lines rules.events life start span.end ⊎ (IsFlushedEvent rules.lines rules.events life start span.end × Contains more span.end)
    go (inl natural) = inl natural
    go (inr flushed) = inr (flushed.0, wider span.end flushed.1)

-- the places as a test
abbrev among : List ℕ → ℕ → Bool
among licences place = list_any (λ licence. eqb licence place) licences

tested : (licences : List ℕ) (place : ℕ) → Contains licences place → among licences place ≡ true
tested licences place there = there_any (λ licence. eqb licence place) licences place there (eq-eqb place place refl)

by_test : (rules : Rules) (licences life : List ℕ) (start : ℕ) (spans : List Extent) →
    IsPartition rules.lines rules.events (λ place. Contains licences place) life start spans →
    IsPartition rules.lines rules.events (λ place. among licences place ≡ true) life start spans
by_test rules licences life start [] all = tt
by_test rules licences life start (span ∷ spans) all = (all.0, go all.1, by_test rules licences life span.end spans all.2)
  where
    go : IsNaturalEvent rules.lines rules.events life start span.end ⊎ (IsFlushedEvent rules.lines rules.events life start span.end × Contains licences span.end) →
        IsNaturalEvent rules.lines rules.events life start span.end ⊎ (IsFlushedEvent rules.lines rules.events life start span.end × (among licences span.end ≡ true))
    go (inl natural) = inl natural
    go (inr flushed) = inr (flushed.0, tested licences span.end flushed.1)

-- by what multiline_core says of partitions
pub told_adjoin : ((lines : LineRule) (rule : GroupRule) (licensed : ℕ → Bool) (bytes : List ℕ) (start : ℕ) (spans : List Extent) → IsGroupRule rule →
    IsPartition lines rule (λ place. licensed place ≡ true) bytes start spans → AreAdjoiningSpans start spans) →
    (rules : Rules) (licences life : List ℕ) (start : ℕ) (told : List ToldEvent) → IsGroupRule rules.events → AreTold rules licences life start told →
    Adjoin start (spans_of told)
told_adjoin adjoins rules licences life start told in_range are =
    adjoin start (spans_of told)
    (adjoins rules.lines rules.events (among licences) life start (spans_of told) in_range (by_test rules licences life start (spans_of told) are.partition))

pub stay_told : (rules : Rules) (licences more life : List ℕ) (start : ℕ) (told : List ToldEvent) → All (Contains more) licences →
    AreTold rules licences life start told → AreTold rules more life start told
stay_told rules licences more life start told wider are = record {
  partition = widened rules licences more life (λ place among. All-contains (Contains more) licences place wider among) start (spans_of told) are.partition;
  fates = are.fates;
}
