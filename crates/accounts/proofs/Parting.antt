-- The looks of a tail, parted at its last look at the length: both parts are all of them, and where only reads follow a look at the
-- length, it is the last one.
use Rattle.std.proofs.Common.{◌≡◌, Bool, true, false, List, [], ◌∷◌, ◌++◌, ◌||◌, refl, ap, ◌∙◌, append-nil, if◌then◌else◌}
use Rattle.std.specs.List.{AllByRecursion}
use Rattle.file_identity.specs.AskedAgain.{IsRead}
use Rattle.harvester.specs.History.{History}
use Rattle.outside.specs.declared.history.Look.{Look}
use Rattle.outside.specs.declared.history.Question.{Question}
use Rattle.outside.specs.declared.history.Question.TheVariants.{Length, ReadAt}
use Rattle.accounts.specs.Parted.{asks_length, before_last_length, from_last_length, has_length, has_lost_key, kept_looks, lost_looks}

-- ---- where the length was asked

none_at_length : (looks : List Look) → AllByRecursion (λ (look : Look). IsRead look.question) looks → has_length looks ≡ false
none_at_length [] reads = refl
none_at_length (look ∷ looks) reads = by_question look.question reads.0 (none_at_length looks reads.1)
  where
    by_question : (question : Question) → IsRead question → has_length looks ≡ false → (asks_length question || has_length looks) ≡ false
    by_question Length is none = absurd is
    by_question (ReadAt place count) is none = none

or_true : (b : Bool) → (b || true) ≡ true
or_true true = refl
or_true false = refl

some_at_length : (since : List Look) (fall : Look) (later : List Look) → fall.question ≡ Length → has_length (since ++ fall ∷ later) ≡ true
some_at_length [] fall later asks = ap (λ (q : Question). asks_length q || has_length later) asks
some_at_length (look ∷ since) fall later asks =
    ap (λ (b : Bool). asks_length look.question || b) (some_at_length since fall later asks) ∙ or_true (asks_length look.question)

-- ---- after the last of these looks only reads are

pub before_fall : (since : List Look) (fall : Look) (later : List Look) → fall.question ≡ Length → AllByRecursion (λ (look : Look). IsRead look.question) later →
    before_last_length (since ++ fall ∷ later) ≡ since
before_fall [] fall later asks reads = ap (λ (b : Bool). if b then fall ∷ before_last_length later else []) (none_at_length later reads)
before_fall (look ∷ since) fall later asks reads =
    ap (λ (b : Bool). if b then look ∷ before_last_length (since ++ fall ∷ later) else []) (some_at_length since fall later asks)
    ∙ ap (λ (l : List Look). look ∷ l) (before_fall since fall later asks reads)

pub from_fall : (since : List Look) (fall : Look) (later : List Look) → fall.question ≡ Length → AllByRecursion (λ (look : Look). IsRead look.question) later →
    from_last_length (since ++ fall ∷ later) ≡ fall ∷ later
from_fall [] fall later asks reads = ap (λ (b : Bool). if b then from_last_length later else fall ∷ later) (none_at_length later reads)
from_fall (look ∷ since) fall later asks reads =
    ap (λ (b : Bool). if b then from_last_length (since ++ fall ∷ later) else look ∷ (since ++ fall ∷ later)) (some_at_length since fall later asks)
    ∙ from_fall since fall later asks reads

-- ---- both parts

both_parts : (looks : List Look) → before_last_length looks ++ from_last_length looks ≡ looks
both_parts [] = refl
both_parts (look ∷ looks) = by_case (has_length looks) (both_parts looks)
  where
    by_case : (b : Bool) → before_last_length looks ++ from_last_length looks ≡ looks →
        (if b then look ∷ before_last_length looks else []) ++ (if b then from_last_length looks else look ∷ looks) ≡ look ∷ looks
    by_case true both = ap (λ (l : List Look). look ∷ l) both
    by_case false both = refl

pub parts_together : (h : History) (looks : List Look) → kept_looks h looks ++ lost_looks h looks ≡ looks
parts_together h looks = by_case (has_lost_key h)
  where
    by_case : (b : Bool) → (if b then before_last_length looks else looks) ++ (if b then from_last_length looks else []) ≡ looks
    by_case true = both_parts looks
    by_case false = append-nil looks

pub all_kept : (h : History) (looks : List Look) → has_lost_key h ≡ false → kept_looks h looks ≡ looks
all_kept h looks keeps = ap (λ (b : Bool). if b then before_last_length looks else looks) keeps

pub none_lost : (h : History) (looks : List Look) → has_lost_key h ≡ false → lost_looks h looks ≡ []
none_lost h looks keeps = ap (λ (b : Bool). if b then from_last_length looks else []) keeps

-- where the key was lost at a fall
module _ (h : History) (looks since : List Look) (fall : Look) (later : List Look) (loses : has_lost_key h ≡ true) (are : looks ≡ since ++ fall ∷ later) (asks : fall.question ≡ Length)
    (reads : AllByRecursion (λ (look : Look). IsRead look.question) later) where
  pub kept_before_fall : kept_looks h looks ≡ since
  kept_before_fall =
      ap (λ (b : Bool). if b then before_last_length looks else looks) loses ∙ ap before_last_length are ∙ before_fall since fall later asks reads

  pub lost_from_fall : lost_looks h looks ≡ fall ∷ later
  lost_from_fall = ap (λ (b : Bool). if b then from_last_length looks else []) loses ∙ ap from_last_length are ∙ from_fall since fall later asks reads
