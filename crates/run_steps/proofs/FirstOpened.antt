-- Each file as it was opened first is one of its openings, and each slot has such a one.
use Rattle.std.proofs.Common.{◌≡◌, ◌==◌, Bool, true, false, List, [], ◌∷◌, ◌++◌, Contains, if◌then◌else◌, sym, subst, ◌∙◌}
use Rattle.accounts.proofs.Backing.{mapped_there}
use Rattle.accounts.proofs.Grounded.{of_map}
use Rattle.accounts.specs.Opened.{Opened}
use Rattle.ship_core.proofs.Members.{first_there, later_there}
use Rattle.wire_base.specs.declared.numbers.Slot.{Slot}
use Rattle.run_steps.specs.SoFar.{Earlier, as_opened, first_opened, opened_before}
use Rattle.run_steps.proofs.Ordering.{same_slots}

pub first_within : (earlier : List Earlier) (opened : List Opened) (one : Opened) → Contains (first_opened earlier opened) one → Contains (opened_before earlier ++ opened) one
first_within [] opened one there = there
first_within (of ∷ earlier) opened one there =
    let item = of_map (as_opened of.opened) (first_opened earlier opened) one there in
    by_case item.item (first_within earlier opened item.item item.among) (item.item.begin.slot.0 == of.opened.begin.slot.0) item.is
  where
    by_case : (other : Opened) → Contains (opened_before earlier ++ opened) other → (b : Bool) → (if b then of.opened else other) ≡ one → Contains (of.opened ∷ opened_before earlier ++ opened) one
    by_case other among true is = subst (Contains (of.opened ∷ opened_before earlier ++ opened)) is (first_there of.opened (opened_before earlier ++ opened))
    by_case other among false is = subst (Contains (of.opened ∷ opened_before earlier ++ opened)) is (later_there of.opened other (opened_before earlier ++ opened) among)

pub record FirstOf (earlier : List Earlier) (opened : List Opened) (slot : Slot) : Type 0 where
  pub one : Opened
  pub among : Contains (first_opened earlier opened) one
  pub slot_is : one.begin.slot ≡ slot

pub first_named : (earlier : List Earlier) (opened : List Opened) (slot : Slot) (last : Opened) → Contains opened last → last.begin.slot ≡ slot → FirstOf earlier opened slot
first_named earlier opened slot last among of_slot =
    let item = of_map (λ (one : Opened). one.begin.slot) (first_opened earlier opened) last.begin.slot
    (subst (λ (l : List Slot). Contains l last.begin.slot) (sym (same_slots earlier opened)) (mapped_there (λ (one : Opened). one.begin.slot) opened last among)) in
    record { one = item.item; among = item.among; slot_is = item.is ∙ of_slot }
