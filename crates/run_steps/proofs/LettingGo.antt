-- Lanes of which one lets a harvester go: what is said of their passes, of what they hold and of the other harvesters stays so.
use Rattle.std.proofs.Common.{◌≡◌, ◌⊎◌, inl, inr, ⊎_elim, ℕ, zero, suc, ◌+◌, ◌<◌, List, [], ◌∷◌, ◌++◌, length, map, Some, refl, sym, ap, subst, ◌∙◌, arith}
use Rattle.std.proofs.lemmas.List.{length-append}
use Rattle.std.specs.Prelude.{slice_get}
use Rattle.std.specs.List.{AllByRecursion}
use Rattle.accounts.specs.Turning.{Pairs}
use Rattle.harvester.specs.HasTold.{begin_of}
use Rattle.harvester.specs.declared.harvester.Harvester.{Harvester}
use Rattle.lanes.specs.Giving.{notes_in, parcels_in}
use Rattle.lanes.specs.Laning.{Laning}
use Rattle.rounds.specs.Books.{held_notes, held_parcels}
use Rattle.rounds.specs.Crewed.{lanes_passes}
use Rattle.rounds.specs.Pairs.{SomeOf}
use Rattle.rounds.specs.Settled.{spans_told}
use Rattle.rounds.specs.Staying.{HaveSlot}
use Rattle.wire_base.specs.declared.note.Begin.{Begin}
use Rattle.wire_base.specs.declared.note.Note.{Note}
use Rattle.wire_base.specs.declared.numbers.Slot.{Slot}
use Rattle.wire_base.specs.declared.parcel.Parcel.{Parcel}
use Rattle.run_steps.specs.ClosesTail.{LetsGoAt}
use Rattle.run_steps.specs.MetBy.{SomeHarvester}
use Rattle.run_steps.specs.Releasing.{harvesters_of}
use Rattle.run_steps.proofs.LessOne.{StandsIn, counted_less, each_less, each_one, less, less_in, paired_at, pairs_less, removed, some_less, some_of_all}

-- ---- lanes of which one has other harvesters

module _ {T : Type 0} (hs : List (Harvester T)) where
  abbrev pub with_these : Laning T → Laning T
  with_these lane = record lane { harvesters = hs }

  pub passes_at : (front : List (Laning T)) (lane : Laning T) (back : List (Laning T)) → lanes_passes (front ++ with_these lane ∷ back) ≡ lanes_passes (front ++ lane ∷ back)
  passes_at [] lane back = refl
  passes_at (first ∷ front) lane back = let rest = passes_at front lane back in cc

  pub parcels_at : (front : List (Laning T)) (lane : Laning T) (back : List (Laning T)) → held_parcels (front ++ with_these lane ∷ back) ≡ held_parcels (front ++ lane ∷ back)
  parcels_at [] lane back = refl
  parcels_at (first ∷ front) lane back = ap (λ (l : List Parcel). parcels_in first.held ++ l) (parcels_at front lane back)

  pub notes_at : (front : List (Laning T)) (lane : Laning T) (back : List (Laning T)) → held_notes (front ++ with_these lane ∷ back) ≡ held_notes (front ++ lane ∷ back)
  notes_at [] lane back = refl
  notes_at (first ∷ front) lane back = ap (λ (l : List Note). notes_in first.held ++ l) (notes_at front lane back)

  pub spans_at : (front : List (Laning T)) (lane : Laning T) (back : List (Laning T)) → spans_told (front ++ with_these lane ∷ back) ≡ spans_told (front ++ lane ∷ back)
  spans_at [] lane back = refl
  spans_at (first ∷ front) lane back = let rest = spans_at front lane back in omega (arith, rest)

-- ---- one went

within : {A : Type 0} (xs : List A) (k : ℕ) (x : A) → slice_get xs k ≡ Some x → k < length xs
within [] k x got = absurd cc
within (y ∷ xs) zero x got = omega arith
within (y ∷ xs) (suc k) x got = let rest = within xs k x got in omega (arith, rest)

module _ {T : Type 0} (one : Harvester T) (old new : List (Laning T)) (go : LetsGoAt one old new) where
  abbrev pub left_in : List (Harvester T)
  left_in = less go.lane.harvesters go.seat

  pub new_is : new ≡ go.front ++ with_these left_in go.lane ∷ go.back
  new_is = go.are ∙ ap (λ (l : Laning T). go.front ++ l ∷ go.back)
      (go.released.is ∙ ap (λ (hs : List (Harvester T)). with_these hs go.lane) (removed go.lane.harvesters go.seat one (within go.lane.harvesters go.seat one go.released.was)))

  -- of functions of lanes
  same_by : {X : Type 0} (f : List (Laning T) → X) → f (go.front ++ with_these left_in go.lane ∷ go.back) ≡ f (go.front ++ go.lane ∷ go.back) → f new ≡ f old
  same_by f same = ap f new_is ∙ same ∙ sym (ap f go.were)

  pub passes_kept : lanes_passes new ≡ lanes_passes old
  passes_kept = same_by lanes_passes (passes_at left_in go.front go.lane go.back)

  pub parcels_kept : held_parcels new ≡ held_parcels old
  parcels_kept = same_by held_parcels (parcels_at left_in go.front go.lane go.back)

  pub notes_kept : held_notes new ≡ held_notes old
  notes_kept = same_by held_notes (notes_at left_in go.front go.lane go.back)

  pub spans_kept : spans_told new ≡ spans_told old
  spans_kept = same_by spans_told (spans_at left_in go.front go.lane go.back)

  pub as_many_lanes : length new ≡ length old
  as_many_lanes = same_by length (omega (arith, length-append go.front (with_these left_in go.lane ∷ go.back), length-append go.front (go.lane ∷ go.back)))

  -- ---- of harvesters

  many_at : (front : List (Laning T)) (lane : Laning T) (back : List (Laning T)) → length (harvesters_of (front ++ lane ∷ back)) ≡ length (harvesters_of front) + (length lane.harvesters + length (harvesters_of back))
  many_at [] lane back = omega (arith, length-append lane.harvesters (harvesters_of back))
  many_at (first ∷ front) lane back =
      omega (arith, length-append first.harvesters (harvesters_of (front ++ lane ∷ back)), length-append first.harvesters (harvesters_of front), many_at front lane back)

  pub one_less : length (harvesters_of old) ≡ length (harvesters_of new) + 1
  one_less = omega (
    arith,
    ap (λ (l : List (Laning T)). length (harvesters_of l)) go.were,
    ap (λ (l : List (Laning T)). length (harvesters_of l)) new_is,
    many_at go.front go.lane go.back,
    many_at go.front (with_these left_in go.lane) go.back,
    counted_less go.lane.harvesters go.seat one go.released.was,
  )

  module _ (P : Harvester T → Type 0) where
    abbrev InLane : Laning T → Type 0
    InLane lane = AllByRecursion P lane.harvesters

    each_at : (front : List (Laning T)) (lane : Laning T) (k : ℕ) (back : List (Laning T)) → AllByRecursion InLane (front ++ lane ∷ back) → AllByRecursion InLane (front ++ with_these (less lane.harvesters k) lane ∷ back)
    each_at [] lane k back each = (each_less P lane.harvesters k each.0, each.1)
    each_at (first ∷ front) lane k back each = (each.0, each_at front lane k back each.1)

    pub each_kept : AllByRecursion InLane old → AllByRecursion InLane new
    each_kept each = subst (AllByRecursion InLane) (sym new_is) (each_at go.front go.lane go.seat go.back (subst (AllByRecursion InLane) go.were each))

    one_at : (front : List (Laning T)) (lane : Laning T) (k : ℕ) (back : List (Laning T)) → slice_get lane.harvesters k ≡ Some one → AllByRecursion InLane (front ++ lane ∷ back) → P one
    one_at [] lane k back got each = each_one P lane.harvesters k one got each.0
    one_at (first ∷ front) lane k back got each = one_at front lane k back got each.1

    pub one_was : AllByRecursion InLane old → P one
    one_was each = one_at go.front go.lane go.seat go.back go.released.was (subst (AllByRecursion InLane) go.were each)

    some_at : (front : List (Laning T)) (lane : Laning T) (k : ℕ) (back : List (Laning T)) → slice_get lane.harvesters k ≡ Some one → SomeHarvester P (front ++ lane ∷ back) →
        P one ⊎ SomeHarvester P (front ++ with_these (less lane.harvesters k) lane ∷ back)
    some_at [] lane k back got some = ⊎_elim (λ here. ⊎_elim (λ is. inl is) (λ other. inr (inl other)) (some_less P lane.harvesters k one got here)) (λ later. inr (inr later)) some
    some_at (first ∷ front) lane k back got some = ⊎_elim (λ here. inr (inl here)) (λ later. ⊎_elim (λ is. inl is) (λ other. inr (inr other)) (some_at front lane k back got later)) some

    -- some are so, so this one was or another is
    pub some_kept : SomeHarvester P old → P one ⊎ SomeHarvester P new
    some_kept some = subst (λ (l : List (Laning T)). P one ⊎ SomeHarvester P l) (sym new_is)
        (some_at go.front go.lane go.seat go.back go.released.was (subst (SomeHarvester P) go.were some))

    some_before : (front : List (Laning T)) (lane : Laning T) (k : ℕ) (back : List (Laning T)) → SomeHarvester P (front ++ with_these (less lane.harvesters k) lane ∷ back) → SomeHarvester P (front ++ lane ∷ back)
    some_before [] lane k back some = ⊎_elim (λ here. inl (some_of_all P lane.harvesters k here)) (λ later. inr later) some
    some_before (first ∷ front) lane k back some = ⊎_elim (λ here. inl here) (λ later. inr (some_before front lane k back later)) some

    pub some_was : SomeHarvester P new → SomeHarvester P old
    some_was some = subst (SomeHarvester P) (sym go.were) (some_before go.front go.lane go.seat go.back (subst (SomeHarvester P) new_is some))

  -- ---- and of the files for which they stand

  module _ {A : Type 0} (R : A → Harvester T → Type 0) where
    abbrev Stand : List A → Laning T → Type 0
    Stand files lane = Pairs R files lane.harvesters

    -- the one for which it stands, and the others
    pub record StandsFor (files : List (List A)) : Type 0 where
      pub file : A
      pub place : ℕ
      pub there : StandsIn place go.seat files file
      pub is : R file one
      pub others : Pairs Stand (less_in place go.seat files) new

    record StandsAt (files : List (List A)) (front : List (Laning T)) (lane : Laning T) (back : List (Laning T)) : Type 0 where
      file : A
      place : ℕ
      there : StandsIn place go.seat files file
      is : R file one
      others : Pairs Stand (less_in place go.seat files) (front ++ with_these (less lane.harvesters go.seat) lane ∷ back)

    stands_at : (files : List (List A)) (front : List (Laning T)) (lane : Laning T) (back : List (Laning T)) → slice_get lane.harvesters go.seat ≡ Some one → Pairs Stand files (front ++ lane ∷ back) →
        StandsAt files front lane back
    unfolding less_in
    stands_at [] [] lane back got pairs = absurd pairs
    stands_at [] (first ∷ front) lane back got pairs = absurd pairs
    stands_at (here ∷ files) [] lane back got pairs =
        let of = paired_at R here lane.harvesters go.seat one pairs.0 got in
        record { file = of.one; place = 0; there = of.is; is = of.pair; others = (pairs_less R here lane.harvesters go.seat pairs.0, pairs.1) }
    stands_at (here ∷ files) (first ∷ front) lane back got pairs =
        let rest = stands_at files front lane back got pairs.1 in
        record { file = rest.file; place = suc rest.place; there = rest.there; is = rest.is; others = (pairs.0, rest.others) }

    pub stands_for : (files : List (List A)) → Pairs Stand files old → StandsFor files
    stands_for files pairs =
        let of = stands_at files go.front go.lane go.back go.released.was (subst (Pairs Stand files) go.were pairs) in
        record { file = of.file; place = of.place; there = of.there; is = of.is; others = subst (Pairs Stand (less_in of.place go.seat files)) (sym new_is) of.others }

-- ---- slots

module _ {T : Type 0} where
  abbrev pub OfSlot : Slot → Harvester T → Type 0
  OfSlot slot harvester = (begin_of harvester).slot ≡ slot

  to_begins : (slot : Slot) (hs : List (Harvester T)) → SomeOf (OfSlot slot) hs → SomeOf (λ (b : Begin). b.slot ≡ slot) (map begin_of hs)
  to_begins slot [] some = absurd some
  to_begins slot (h ∷ hs) some = ⊎_elim (λ here. inl here) (λ later. inr (to_begins slot hs later)) some

  of_begins : (slot : Slot) (hs : List (Harvester T)) → SomeOf (λ (b : Begin). b.slot ≡ slot) (map begin_of hs) → SomeOf (OfSlot slot) hs
  of_begins slot [] some = absurd some
  of_begins slot (h ∷ hs) some = ⊎_elim (λ here. inl here) (λ later. inr (of_begins slot hs later)) some

  pub have_slot : (slot : Slot) (lanes : List (Laning T)) → SomeHarvester (OfSlot slot) lanes → HaveSlot slot lanes
  have_slot slot [] some = absurd some
  have_slot slot (lane ∷ lanes) some = ⊎_elim (λ here. inl (to_begins slot lane.harvesters here)) (λ later. inr (have_slot slot lanes later)) some

  pub slot_had : (slot : Slot) (lanes : List (Laning T)) → HaveSlot slot lanes → SomeHarvester (OfSlot slot) lanes
  slot_had slot [] some = absurd some
  slot_had slot (lane ∷ lanes) some = ⊎_elim (λ here. inl (of_begins slot lane.harvesters here)) (λ later. inr (slot_had slot lanes later)) some
