-- Lanes of which one has a harvester that changed: what is said of their passes, of what they hold and of the other harvesters stays so.
use Rattle.std.proofs.Common.{◌≡◌, inl, inr, ⊎_elim, ℕ, zero, suc, List, [], ◌∷◌, ◌++◌, append_assoc, length, length-append, map, Some, refl, sym, ap, subst, ◌∙◌, arith}
use Rattle.std.specs.Prelude.{slice_get, slice_set}
use Rattle.std.specs.List.{AllByRecursion}
use Rattle.accounts.specs.Turning.{Pairs}
use Rattle.harvester.specs.HasTold.{begin_of}
use Rattle.harvester.specs.declared.harvester.Harvester.{Harvester}
use Rattle.lanes.specs.Laning.{Laning}
use Rattle.rounds.specs.Books.{held_notes, held_parcels}
use Rattle.rounds.specs.Crewed.{lanes_passes}
use Rattle.rounds.specs.Pairs.{SomeOf}
use Rattle.rounds.specs.Settled.{spans_told}
use Rattle.rounds.specs.Staying.{begins_in, begins_of}
use Rattle.wire_base.specs.declared.note.Begin.{Begin}
use Rattle.wire_base.specs.declared.numbers.Slot.{Slot}
use Rattle.run_steps.specs.Changing.{ChangesAt}
use Rattle.run_steps.specs.MetBy.{SomeHarvester}
use Rattle.run_steps.specs.Releasing.{harvesters_of}
use Rattle.run_steps.proofs.LessOne.{all_in}
use Rattle.run_steps.proofs.LettingGo.{notes_at, parcels_at, passes_at, spans_at, with_these}

-- ---- a list of which one item is another

module _ {A : Type 0} where
  pub each_set : (P : A → Type 0) (xs : List A) (k : ℕ) (x y : A) → slice_get xs k ≡ Some x → (P x → P y) → AllByRecursion P xs → AllByRecursion P (slice_set xs k y)
  each_set P [] k x y got then each = absurd cc
  each_set P (z ∷ xs) zero x y got then each = let is : z ≡ x = cc in (then (subst P is each.0), each.1)
  each_set P (z ∷ xs) (suc k) x y got then each = (each.0, each_set P xs k x y got then each.1)

  pub one_of_each : (P : A → Type 0) (xs : List A) (k : ℕ) (x : A) → slice_get xs k ≡ Some x → AllByRecursion P xs → P x
  one_of_each P [] k x got each = absurd cc
  one_of_each P (z ∷ xs) zero x got each = let is : z ≡ x = cc in subst P is each.0
  one_of_each P (z ∷ xs) (suc k) x got each = one_of_each P xs k x got each.1

  some_set : (P : A → Type 0) (xs : List A) (k : ℕ) (x y : A) → slice_get xs k ≡ Some x → (P x → P y) → SomeOf P xs → SomeOf P (slice_set xs k y)
  some_set P [] k x y got then some = absurd some
  some_set P (z ∷ xs) zero x y got then some = let is : z ≡ x = cc in ⊎_elim (λ here. inl (then (subst P is here))) (λ later. inr later) some
  some_set P (z ∷ xs) (suc k) x y got then some = ⊎_elim (λ here. inl here) (λ later. inr (some_set P xs k x y got then later)) some

  mapped_set : {B : Type 0} (f : A → B) (xs : List A) (k : ℕ) (x y : A) → slice_get xs k ≡ Some x → f y ≡ f x → map f (slice_set xs k y) ≡ map f xs
  mapped_set f [] k x y got same = absurd cc
  mapped_set {B} f (z ∷ xs) zero x y got same = let is : z ≡ x = cc in ap (λ (b : B). b ∷ map f xs) (same ∙ ap f (sym is))
  mapped_set {B} f (z ∷ xs) (suc k) x y got same = ap (λ (l : List B). f z ∷ l) (mapped_set f xs k x y got same)

  counted_set : (xs : List A) (k : ℕ) (x y : A) → slice_get xs k ≡ Some x → length (slice_set xs k y) ≡ length xs
  counted_set [] k x y got = absurd cc
  counted_set (z ∷ xs) zero x y got = refl
  counted_set (z ∷ xs) (suc k) x y got = ap suc (counted_set xs k x y got)

  -- before and after it
  record SetIn (xs : List A) (k : ℕ) (y : A) : Type 0 where
    front : List A
    back : List A
    are : slice_set xs k y ≡ front ++ y ∷ back

  set_in : (xs : List A) (k : ℕ) (x y : A) → slice_get xs k ≡ Some x → SetIn xs k y
  set_in [] k x y got = absurd cc
  set_in (z ∷ xs) zero x y got = record { front = []; back = xs; are = refl }
  set_in (z ∷ xs) (suc k) x y got = let rest = set_in xs k x y got in record { front = z ∷ rest.front; back = rest.back; are = ap (λ (l : List A). z ∷ l) rest.are }

-- ---- the lanes

module _ {T : Type 0} {slot : Slot} {Changes : Harvester T → Harvester T → Type 0} {number : ℕ} (old new : List (Laning T)) (change : ChangesAt number slot Changes old new) where
  abbrev pub before : Harvester T
  before = change.changes.before

  abbrev pub after : Harvester T
  after = change.changes.after

  abbrev pub changed_in : List (Harvester T)
  changed_in = slice_set change.lane.harvesters change.changes.index after

  pub changed_is : new ≡ change.front ++ with_these changed_in change.lane ∷ change.back
  changed_is = change.are ∙ ap (λ (l : Laning T). change.front ++ l ∷ change.back) change.changes.is

  -- of functions of lanes
  same_by : {X : Type 0} (f : List (Laning T) → X) → f (change.front ++ with_these changed_in change.lane ∷ change.back) ≡ f (change.front ++ change.lane ∷ change.back) → f new ≡ f old
  same_by f same = ap f changed_is ∙ same ∙ sym (ap f change.were)

  pub passes_same : lanes_passes new ≡ lanes_passes old
  passes_same = same_by lanes_passes (passes_at changed_in change.front change.lane change.back)

  pub parcels_same : held_parcels new ≡ held_parcels old
  parcels_same = same_by held_parcels (parcels_at changed_in change.front change.lane change.back)

  pub notes_same : held_notes new ≡ held_notes old
  notes_same = same_by held_notes (notes_at changed_in change.front change.lane change.back)

  pub spans_same : spans_told new ≡ spans_told old
  spans_same = same_by spans_told (spans_at changed_in change.front change.lane change.back)

  pub as_many : length new ≡ length old
  as_many = same_by length (omega (arith, length-append change.front (with_these changed_in change.lane ∷ change.back), length-append change.front (change.lane ∷ change.back)))

  many_at : (front : List (Laning T)) → length (harvesters_of (front ++ with_these changed_in change.lane ∷ change.back)) ≡ length (harvesters_of (front ++ change.lane ∷ change.back))
  many_at [] = omega (
    arith,
    length-append changed_in (harvesters_of change.back),
    length-append change.lane.harvesters (harvesters_of change.back),
    counted_set change.lane.harvesters change.changes.index before after change.changes.was,
  )
  many_at (first ∷ front) = omega (
    arith,
    length-append first.harvesters (harvesters_of (front ++ with_these changed_in change.lane ∷ change.back)),
    length-append first.harvesters (harvesters_of (front ++ change.lane ∷ change.back)),
    many_at front,
  )

  pub as_many_harvesters : length (harvesters_of new) ≡ length (harvesters_of old)
  as_many_harvesters = same_by (λ (l : List (Laning T)). length (harvesters_of l)) (many_at change.front)

  begins_at : begin_of after ≡ begin_of before → (front : List (Laning T)) → begins_of (front ++ with_these changed_in change.lane ∷ change.back) ≡ begins_of (front ++ change.lane ∷ change.back)
  begins_at same [] = ap (λ (l : List Begin). l ∷ begins_of change.back) (mapped_set begin_of change.lane.harvesters change.changes.index before after change.changes.was same)
  begins_at same (first ∷ front) = ap (λ (l : List (List Begin)). begins_in first ∷ l) (begins_at same front)

  pub begins_same : begin_of after ≡ begin_of before → begins_of new ≡ begins_of old
  begins_same same = same_by begins_of (begins_at same change.front)

  -- ---- its harvesters

  abbrev InLane : (Harvester T → Type 0) → Laning T → Type 0
  InLane P lane = AllByRecursion P lane.harvesters

  module _ (P : Harvester T → Type 0) where
    each_at : (P before → P after) → (front : List (Laning T)) → AllByRecursion (InLane P) (front ++ change.lane ∷ change.back) → AllByRecursion (InLane P) (front ++ with_these changed_in change.lane ∷ change.back)
    each_at then [] each = (each_set P change.lane.harvesters change.changes.index before after change.changes.was then each.0, each.1)
    each_at then (first ∷ front) each = (each.0, each_at then front each.1)

    pub each_changed : (P before → P after) → AllByRecursion (InLane P) old → AllByRecursion (InLane P) new
    each_changed then each = subst (AllByRecursion (InLane P)) (sym changed_is) (each_at then change.front (subst (AllByRecursion (InLane P)) change.were each))

    some_at : (P before → P after) → (front : List (Laning T)) → SomeHarvester P (front ++ change.lane ∷ change.back) → SomeHarvester P (front ++ with_these changed_in change.lane ∷ change.back)
    some_at then [] some = ⊎_elim (λ here. inl (some_set P change.lane.harvesters change.changes.index before after change.changes.was then here)) (λ later. inr later) some
    some_at then (first ∷ front) some = ⊎_elim (λ here. inl here) (λ later. inr (some_at then front later)) some

    pub some_changed : (P before → P after) → SomeHarvester P old → SomeHarvester P new
    some_changed then some = subst (SomeHarvester P) (sym changed_is) (some_at then change.front (subst (SomeHarvester P) change.were some))

    one_at : (front : List (Laning T)) → AllByRecursion (InLane P) (front ++ change.lane ∷ change.back) → P before
    one_at [] each = one_of_each P change.lane.harvesters change.changes.index before change.changes.was each.0
    one_at (first ∷ front) each = one_at front each.1

    -- what is said of each was so of this one
    pub one_before : AllByRecursion (InLane P) old → P before
    one_before each = one_at change.front (subst (AllByRecursion (InLane P)) change.were each)

  -- the one that changed stands among all of them
  pub record ChangedAmong : Type 0 where
    pub front : List (Harvester T)
    pub back : List (Harvester T)
    pub are : harvesters_of new ≡ front ++ after ∷ back

  among_at : (lanes : List (Laning T)) → (front : List (Harvester T)) × (back : List (Harvester T)) × (harvesters_of (lanes ++ with_these changed_in change.lane ∷ change.back) ≡ front ++ after ∷ back)
  among_at [] =
      let of = set_in change.lane.harvesters change.changes.index before after change.changes.was in (
        of.front,
        of.back ++ harvesters_of change.back,
        ap (λ (l : List (Harvester T)). l ++ harvesters_of change.back) of.are ∙ append_assoc of.front (after ∷ of.back) (harvesters_of change.back),
      )
  among_at (first ∷ lanes) =
      let rest = among_at lanes in
      (first.harvesters ++ rest.0, rest.1, ap (λ (l : List (Harvester T)). first.harvesters ++ l) rest.2 ∙ sym (append_assoc first.harvesters rest.0 (after ∷ rest.1)))

  pub changed_among : ChangedAmong
  changed_among = let of = among_at change.front in record { front = of.0; back = of.1; are = ap harvesters_of changed_is ∙ of.2 }

  -- ---- and of the files for which they stand

  module _ {A : Type 0} (R : A → Harvester T → Type 0) (Like : A → A → Type 0) (on : (x : A) → R x before → (y : A) × R y after × Like x y) where
    abbrev Stand : List A → Laning T → Type 0
    Stand files lane = Pairs R files lane.harvesters

    -- the one of these harvesters stands for another item
    record OneOther (xs : List A) (hs : List (Harvester T)) : Type 0 where
      later : List A
      one : A
      other : A
      was : R one before
      is : R other after
      like : Like one other
      front : List A
      back : List A
      were : xs ≡ front ++ one ∷ back
      are : later ≡ front ++ other ∷ back
      pairs : Pairs R later hs

    one_other : (xs : List A) (hs : List (Harvester T)) (k : ℕ) → slice_get hs k ≡ Some before → Pairs R xs hs → OneOther xs (slice_set hs k after)
    one_other [] [] k got pairs = absurd cc
    one_other [] (h ∷ hs) k got pairs = absurd pairs
    one_other (x ∷ xs) [] k got pairs = absurd pairs
    one_other (x ∷ xs) (h ∷ hs) zero got pairs =
        let is : h ≡ before = cc in
        let was = subst (R x) is pairs.0 in
        let then = on x was in
        record {
          later = then.0 ∷ xs;
          one = x;
          other = then.0;
          was = was;
          is = then.1;
          like = then.2;
          front = [];
          back = xs;
          were = refl;
          are = refl;
          pairs = (then.1, pairs.1);
        }
    one_other (x ∷ xs) (h ∷ hs) (suc k) got pairs =
        let rest = one_other xs hs k got pairs.1 in
        record {
          later = x ∷ rest.later;
          one = rest.one;
          other = rest.other;
          was = rest.was;
          is = rest.is;
          like = rest.like;
          front = x ∷ rest.front;
          back = rest.back;
          were = ap (λ (l : List A). x ∷ l) rest.were;
          are = ap (λ (l : List A). x ∷ l) rest.are;
          pairs = (pairs.0, rest.pairs);
        }

    record StandAt (files : List (List A)) (lanes : List (Laning T)) : Type 0 where
      later : List (List A)
      one : A
      other : A
      was : R one before
      is : R other after
      like : Like one other
      front : List A
      back : List A
      were : all_in files ≡ front ++ one ∷ back
      are : all_in later ≡ front ++ other ∷ back
      stand : Pairs Stand later lanes

    stand_at : (files : List (List A)) (front : List (Laning T)) → Pairs Stand files (front ++ change.lane ∷ change.back) → StandAt files (front ++ with_these changed_in change.lane ∷ change.back)
    stand_at [] [] stand = absurd stand
    stand_at [] (first ∷ front) stand = absurd stand
    stand_at (xs ∷ files) [] stand =
        let of = one_other xs change.lane.harvesters change.changes.index change.changes.was stand.0 in
        record {
          later = of.later ∷ files;
          one = of.one;
          other = of.other;
          was = of.was;
          is = of.is;
          like = of.like;
          front = of.front;
          back = of.back ++ all_in files;
          were = ap (λ (l : List A). l ++ all_in files) of.were ∙ append_assoc of.front (of.one ∷ of.back) (all_in files);
          are = ap (λ (l : List A). l ++ all_in files) of.are ∙ append_assoc of.front (of.other ∷ of.back) (all_in files);
          stand = (of.pairs, stand.1);
        }
    stand_at (xs ∷ files) (first ∷ front) stand =
        let rest = stand_at files front stand.1 in
        record {
          later = xs ∷ rest.later;
          one = rest.one;
          other = rest.other;
          was = rest.was;
          is = rest.is;
          like = rest.like;
          front = xs ++ rest.front;
          back = rest.back;
          were = ap (λ (l : List A). xs ++ l) rest.were ∙ sym (append_assoc xs rest.front (rest.one ∷ rest.back));
          are = ap (λ (l : List A). xs ++ l) rest.are ∙ sym (append_assoc xs rest.front (rest.other ∷ rest.back));
          stand = (stand.0, rest.stand);
        }

    -- of the items of which one is another, which is like it
    pub record StandsOn (files : List (List A)) : Type 0 where
      pub later : List (List A)
      pub one : A
      pub other : A
      pub was : R one before
      pub is : R other after
      pub like : Like one other
      pub front : List A
      pub back : List A
      pub were : all_in files ≡ front ++ one ∷ back
      pub are : all_in later ≡ front ++ other ∷ back
      pub stand : Pairs Stand later new

    pub stands_on : (files : List (List A)) → Pairs Stand files old → StandsOn files
    stands_on files stand =
        let of = stand_at files change.front (subst (Pairs Stand files) change.were stand) in
        record {
          later = of.later;
          one = of.one;
          other = of.other;
          was = of.was;
          is = of.is;
          like = of.like;
          front = of.front;
          back = of.back;
          were = of.were;
          are = of.are;
          stand = subst (Pairs Stand of.later) (sym changed_is) of.stand;
        }
