-- The lane of a slot among the others, of which a harvester of the slot changed.
use Rattle.std.proofs.Common.{◌≡◌, ◌⊎◌, inl, inr, ℕ, zero, suc, ◌<◌, ◌%◌, All, Bool, true, false, List, [], ◌∷◌, get_or, slice_set, length, Some, refl, ap, subst, sym, ◌∙◌, arith}
use Rattle.std.specs.Prelude.{slice_get}
use Rattle.std.proofs.lemmas.List.{length-map}
use Rattle.std.proofs.Math.Nat.{mod-lt}
use Rattle.std.specs.Bool.{OnFalse, OnTrue}
use Rattle.std.proofs.lemmas.List.Elements.{recursion_from_All}
use Rattle.accounts.proofs.Lists.{got_behind}
use Rattle.harvester.specs.HasTold.{begin_of}
use Rattle.harvester.specs.declared.harvester.Harvester.{Harvester}
use Rattle.lanes.specs.Changing.{ChangesOne, HasStirred}
use Rattle.lanes.specs.Laning.{IsOfAnother, Laning, laning}
use Rattle.lanes.specs.declared.lane.Lane.{Lane}
use Rattle.rounds.specs.Crewed.{lanings}
use Rattle.wire_base.specs.declared.numbers.Slot.{Slot}
use Rattle.run_steps.specs.Changing.{ChangesAt, ChangesOf, HasNone}
use Rattle.run_steps.proofs.Admitted.{set_same}
use Rattle.run_steps.proofs.ChangedLanes.{one_of_each}

module _ {T : Type 0} (slot : Slot) (Changes : Harvester T → Harvester T → Type 0) where
  set_changed : (lanes : List (Lane T)) (index : ℕ) (some new : Lane T) → index < length lanes → ChangesOne slot Changes (laning (get_or lanes index some)) (laning new) →
      ChangesAt index slot Changes (lanings lanes) (lanings (slice_set lanes index new))
  set_changed [] index some new inside is = absurd (omega (arith, inside))
  set_changed (lane ∷ lanes) zero some new inside is = record { front = []; lane = laning lane; back = lanings lanes; were = refl; at = refl; after = laning new; changes = is; are = refl }
  set_changed (lane ∷ lanes) (suc index) some new inside is =
      let rest = set_changed lanes index some new (omega (arith, inside)) is in
      record {
        front = laning lane ∷ rest.front;
        lane = rest.lane;
        back = rest.back;
        were = ap (λ (l : List (Laning T)). laning lane ∷ l) rest.were;
        at = ap suc rest.at;
        after = rest.after;
        changes = rest.changes;
        are = ap (λ (l : List (Laning T)). laning lane ∷ l) rest.are;
      }

got_lane : {T : Type 0} (lanes : List (Lane T)) (index : ℕ) (some : Lane T) → index < length lanes → slice_get (lanings lanes) index ≡ Some (laning (get_or lanes index some))
got_lane [] index some inside = absurd (omega (arith, inside))
got_lane (lane ∷ lanes) zero some inside = refl
got_lane (lane ∷ lanes) (suc index) some inside = got_lane lanes index some (omega (arith, inside))

set_got : {A : Type 0} (xs : List A) (k : ℕ) (x y : A) → slice_get xs k ≡ Some x → slice_get (slice_set xs k y) k ≡ Some y
set_got [] k x y got = absurd cc
set_got (z ∷ xs) zero x y got = refl
set_got (z ∷ xs) (suc k) x y got = set_got xs k x y got

module _ {T : Type 0} (slot : Slot) (lanes : List (Lane T)) (spare new : Lane T) (some : 0 < length lanes) where
  abbrev index : ℕ
  index = slot.0 % length lanes

  abbrev was : Lane T
  was = get_or lanes index spare

  inside : index < length lanes
  inside = mod-lt slot.0 some

  index_is : index ≡ slot.0 % length (lanings lanes)
  index_is = ap (λ (n : ℕ). slot.0 % n) (sym (length-map lanes laning))

  pub changed_at : (Changes : Harvester T → Harvester T → Type 0) → ChangesOne slot Changes (laning was) (laning new) → ChangesOf slot Changes (lanings lanes) (lanings (slice_set lanes index new))
  changed_at Changes is = subst (λ (n : ℕ). ChangesAt n slot Changes (lanings lanes) (lanings (slice_set lanes index new))) index_is
      (set_changed slot Changes lanes index spare new inside is)

  got_was : slice_get (lanings lanes) (slot.0 % length (lanings lanes)) ≡ Some (laning was)
  got_was = subst (λ (n : ℕ). slice_get (lanings lanes) n ≡ Some (laning was)) index_is (got_lane lanes index spare inside)

  none_at : All (IsOfAnother slot) (laning was).harvesters → HasNone slot (lanings lanes)
  none_at none = record { lane = laning was; is = got_was; none = none }

  pub on_changed : (Changes : Harvester T → Harvester T → Type 0) (result : Bool) → OnTrue result (ChangesOne slot Changes (laning was) (laning new)) →
      OnTrue result (ChangesOf slot Changes (lanings lanes) (lanings (slice_set lanes index new)))
  on_changed Changes true is = changed_at Changes is
  on_changed Changes false is = tt

  pub on_none : (result : Bool) → OnFalse result (All (IsOfAnother slot) (laning was).harvesters) → OnFalse result (HasNone slot (lanings lanes))
  on_none true is = tt
  on_none false is = none_at is

  pub on_kept : (result : Bool) → OnFalse result (laning new ≡ laning was) → OnFalse result (lanings (slice_set lanes index new) ≡ lanings lanes)
  on_kept true is = tt
  on_kept false is = set_same lanes index spare new inside is

  pub if_there : (Changes : Harvester T → Harvester T → Type 0) (result : Bool) → OnTrue result (ChangesOne slot Changes (laning was) (laning new)) →
      OnFalse result (All (IsOfAnother slot) (laning was).harvesters) → OnFalse result (laning new ≡ laning was) →
      ChangesOf slot Changes (lanings lanes) (lanings (slice_set lanes index new)) ⊎ (HasNone slot (lanings lanes) × (lanings (slice_set lanes index new) ≡ lanings lanes))
  if_there Changes true is none kept = inl (changed_at Changes is)
  if_there Changes false is none kept = inr (none_at none, on_kept false kept)

  -- behind one that was stirred there is one
  pub on_stirred : (Changes : Harvester T → Harvester T → Type 0) (old : List (Laning T)) → length old ≡ length (lanings lanes) → ChangesOf slot HasStirred old (lanings lanes) → (result : Bool) →
      OnTrue result (ChangesOne slot Changes (laning was) (laning new)) → OnFalse result (All (IsOfAnother slot) (laning was).harvesters) → ChangesOf slot Changes (lanings lanes) (lanings (slice_set lanes index new))
  on_stirred Changes old many stirred true is none = changed_at Changes is
  on_stirred Changes old many stirred false is none = absurd (there stirred.changes.of_slot)
    where
      lane_is : Some stirred.after ≡ Some (laning was)
      lane_is = sym (got_behind stirred.front stirred.after stirred.back) ∙ ap (λ (l : List (Laning T)). slice_get l (length stirred.front)) (sym stirred.are)
          ∙ ap (slice_get (lanings lanes)) (stirred.at ∙ ap (λ (n : ℕ). slot.0 % n) many) ∙ got_was

      got : slice_get (laning was).harvesters stirred.changes.index ≡ Some stirred.changes.after
      got =
          let lane_got = lane_is in
          let is_lane : stirred.after ≡ laning was = cc in
          subst (λ (l : Laning T). slice_get l.harvesters stirred.changes.index ≡ Some stirred.changes.after) (sym stirred.changes.is ∙ is_lane)
          (set_got stirred.lane.harvesters stirred.changes.index stirred.changes.before stirred.changes.after stirred.changes.was)

      there : (begin_of stirred.changes.before).slot ≡ slot → ⊥
      there of_slot = one_of_each (IsOfAnother slot) (laning was).harvesters stirred.changes.index stirred.changes.after got (recursion_from_All (IsOfAnother slot) (laning was).harvesters none)
          (ap (λ (h : Harvester T). (begin_of h).slot) stirred.changes.changes ∙ of_slot)
