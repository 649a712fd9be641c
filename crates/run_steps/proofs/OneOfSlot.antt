-- Of a slot there is at most one harvester: the one that was stirred is the one of its slot.
use Rattle.std.proofs.Common.{◌≡◌, ◌⊎◌, inl, inr, ⊎_elim, ℕ, zero, suc, false, List, [], ◌∷◌, ◌++◌, Contains, map, Some, refl, sym, ap, subst, ◌∙◌, arith}
use Rattle.std.proofs.lemmas.List.{map-append}
use Rattle.std.proofs.lemmas.List.Elements.{Contains-append_cases, Contains-append_left, Contains-append_right}
use Rattle.std.specs.Prelude.{slice_get}
use Rattle.accounts.proofs.Backing.{mapped_there}
use Rattle.accounts.proofs.Joining.{same_slot, tells_slots}
use Rattle.accounts.proofs.Often.{once_front, there_counts}
use Rattle.accounts.specs.Once.{AreOnce, one_where}
use Rattle.accounts.specs.Opened.{Opened}
use Rattle.accounts.specs.Turned.{Turned}
use Rattle.accounts.specs.Turning.{IsTurnedSo, Pairs}
use Rattle.accounts.specs.Watch.{Watch}
use Rattle.harvester.specs.HasTold.{begin_of}
use Rattle.harvester.specs.declared.harvester.Harvester.{Harvester}
use Rattle.lanes.specs.Changing.{HasStirred}
use Rattle.lanes.specs.Laning.{Laning}
use Rattle.pass_sums.proofs.Weights.{weigh-append}
use Rattle.rounds.specs.Words.{TailWords}
use Rattle.ship_core.proofs.Members.{first_there, later_there, there_cases}
use Rattle.wire_base.specs.declared.note.Begin.{Begin}
use Rattle.wire_base.specs.declared.numbers.Slot.{Slot}
use Rattle.run_steps.specs.Changing.{ChangesAt}
use Rattle.run_steps.specs.Releasing.{harvesters_of}
use Rattle.run_steps.specs.SoFar.{Left}
use Rattle.run_steps.specs.Stands.{AreEachOnce, AreTurnedIn}
use Rattle.run_steps.proofs.ChangedLanes.{ChangedAmong, before, changed_among}
use Rattle.run_steps.proofs.LessOne.{all_in}
use Rattle.run_steps.proofs.SlotsOnce.{files_once}

abbrev slot_by : {T : Type 0} → Harvester T → Slot
slot_by harvester = (begin_of harvester).slot

-- of items each once, the one of a slot among some has no other of it before or behind it
only_one : (front back : List Slot) (slot : Slot) → AreOnce same_slot (front ++ slot ∷ back) → (Contains front slot ⊎ Contains back slot) → ⊥
only_one front back slot once there =
    let counts = weigh-append (λ (other : Slot). one_where (same_slot other slot)) front (slot ∷ back) in
    let here : one_where (same_slot slot slot) ≡ 1 = ap one_where (tells_slots.itself slot) in
    let most = once slot in
    ⊎_elim (λ before. omega (arith, counts, here, most, there_counts same_slot tells_slots front slot before)) (λ behind. omega (arith, counts, here, most, there_counts same_slot tells_slots back slot behind)) there

module _ {T : Type 0} (tails : TailWords T) (watch : Watch) (opened : List Opened) (moments : List ℕ) where
  slot_same : (t : Turned) (h : Harvester T) → IsTurnedSo tails.numbers tails.told watch opened moments t h → slot_by h ≡ t.slot
  slot_same t h so = ap (λ (b : Begin). b.slot) (so.has_told.held.holds.follows.begin ∙ so.is_told.history.begin) ∙ sym so.is_told.slot

  one_lane : (ts : List Turned) (hs : List (Harvester T)) → Pairs (IsTurnedSo tails.numbers tails.told watch opened moments) ts hs → map slot_by hs ≡ map (λ (t : Turned). t.slot) ts
  one_lane [] [] pairs = refl
  one_lane [] (h ∷ hs) pairs = absurd pairs
  one_lane (t ∷ ts) [] pairs = absurd pairs
  one_lane (t ∷ ts) (h ∷ hs) pairs =
      ap (λ (s : Slot). s ∷ map slot_by hs) (slot_same t h pairs.0) ∙ ap (λ (l : List Slot). t.slot ∷ l) (one_lane ts hs pairs.1)

  slots_same : (files : List (List Turned)) (lanes : List (Laning T)) → Pairs (AreTurnedIn tails watch opened moments) files lanes → map slot_by (harvesters_of lanes) ≡ map (λ (t : Turned). t.slot) (all_in files)
  slots_same [] [] pairs = refl
  slots_same [] (lane ∷ lanes) pairs = absurd pairs
  slots_same (ts ∷ files) [] pairs = absurd pairs
  slots_same (ts ∷ files) (lane ∷ lanes) pairs =
      map-append slot_by lane.harvesters (harvesters_of lanes)
      ∙ ap (λ (l : List Slot). l ++ map slot_by (harvesters_of lanes)) (one_lane ts lane.harvesters pairs.0)
      ∙ ap (λ (l : List Slot). map (λ (t : Turned). t.slot) ts ++ l) (slots_same files lanes pairs.1)
      ∙ sym (map-append (λ (t : Turned). t.slot) ts (all_in files))

  pub lanes_once : (files : List (List Turned)) (lanes : List (Laning T)) (left : List Left) → Pairs (AreTurnedIn tails watch opened moments) files lanes →
      AreEachOnce opened (all_in files ++ map (λ (one : Left). one.turned) left) → AreOnce same_slot (map slot_by (harvesters_of lanes))
  lanes_once files lanes left pairs once =
      let slots = λ (l : List Turned). map (λ (t : Turned). t.slot) l in
      let left_files = map (λ (one : Left). one.turned) left in
      subst (AreOnce same_slot) (sym (slots_same files lanes pairs))
      (once_front same_slot tells_slots (slots (all_in files)) (slots left_files)
      (subst (AreOnce same_slot) (map-append (λ (t : Turned). t.slot) (all_in files) left_files) (files_once opened (all_in files ++ left_files) once)))

module _ {T : Type 0} where
  got_there : (hs : List (Harvester T)) (k : ℕ) (h : Harvester T) → slice_get hs k ≡ Some h → Contains hs h
  got_there [] k h got = absurd cc
  got_there (first ∷ hs) zero h got = let is : first ≡ h = cc in subst (Contains (first ∷ hs)) is (first_there first hs)
  got_there (first ∷ hs) (suc k) h got = later_there first h hs (got_there hs k h got)

  -- it is one of all of them
  there_at : (front : List (Laning T)) (lane : Laning T) (back : List (Laning T)) (h : Harvester T) → Contains lane.harvesters h → Contains (harvesters_of (front ++ lane ∷ back)) h
  there_at [] lane back h there = Contains-append_left lane.harvesters (harvesters_of back) h there
  there_at (first ∷ front) lane back h there = Contains-append_right first.harvesters (harvesters_of (front ++ lane ∷ back)) h (there_at front lane back h there)

  -- the one that was stirred is the one of the slot that changes next
  pub still_stirred : {slot : Slot} {Next : Harvester T → Harvester T → Type 0} {number other : ℕ} (old mid new : List (Laning T)) (stirred : ChangesAt number slot HasStirred old mid)
      (next : ChangesAt other slot Next mid new) → AreOnce same_slot (map slot_by (harvesters_of mid)) → (before mid new next).rests ≡ false
  still_stirred {slot} old mid new stirred next once =
      by_place (Contains-append_cases of.front (one ∷ of.back) its (subst (λ (l : List (Harvester T)). Contains l its) of.are
      (subst (λ (l : List (Laning T)). Contains (harvesters_of l) its) (sym next.were) (there_at next.front next.lane next.back its (got_there next.lane.harvesters next.changes.index its next.changes.was)))))
    where
      of : ChangedAmong old mid stirred
      of = changed_among old mid stirred

      one : Harvester T
      one = stirred.changes.after

      its : Harvester T
      its = before mid new next

      one_is : slot_by one ≡ slot
      one_is = ap (λ (h : Harvester T). slot_by h) stirred.changes.changes ∙ stirred.changes.of_slot

      slots_are : AreOnce same_slot (map slot_by of.front ++ slot ∷ map slot_by of.back)
      slots_are = subst (λ (s : Slot). AreOnce same_slot (map slot_by of.front ++ s ∷ map slot_by of.back)) one_is
          (subst (AreOnce same_slot) (ap (map slot_by) of.are ∙ map-append slot_by of.front (one ∷ of.back)) once)

      among : (hs : List (Harvester T)) → Contains hs its → Contains (map slot_by hs) slot
      among hs there = subst (Contains (map slot_by hs)) next.changes.of_slot (mapped_there slot_by hs its there)

      by_place : Contains of.front its ⊎ Contains (one ∷ of.back) its → its.rests ≡ false
      by_place (inl front) = absurd (only_one (map slot_by of.front) (map slot_by of.back) slot slots_are (inl (among of.front front)))
      by_place (inr later) = by_case (there_cases one its of.back later)
        where
          by_case : (one ≡ its) ⊎ Contains of.back its → its.rests ≡ false
          by_case (inl same) = ap (λ (h : Harvester T). h.rests) (sym same ∙ stirred.changes.changes)
          by_case (inr back) = absurd (only_one (map slot_by of.front) (map slot_by of.back) slot slots_are (inr (among of.back back)))
