-- The account of a run is one with the slots of hidden rows: each of them is accounted for, and what was there is as it was.
use Rattle.std.proofs.Common.{◌≡◌, inl, ℕ, Bool, true, false, nat_lt, List, [], ◌∷◌, ◌++◌, Option, Some, None, if◌then◌else◌, refl, sym, ap, subst, arith, ◌∙◌}
use Rattle.std.specs.List.{AllByRecursion, Contains, flat_map}
use Rattle.std.specs.Option.{option_map_or}
use Rattle.kept_rows.proofs.Growing.{each_on, stays_told}
use Rattle.kept_rows.specs.Account.{AccountedEvent, EpochAccount, Place, SlotAccount, places_in, places_in_epoch, slot_of}
use Rattle.kept_rows.specs.Acknowledged.{talks_of}
use Rattle.kept_rows.specs.Backed.{AreInRows, IsInOneRow}
use Rattle.kept_rows.specs.Epochs.{AreEpochs, AreNumbered}
use Rattle.kept_rows.specs.Going.{AccountGoesOn, EpochGoesOn, EpochsGoOn, PlaceGoesOn, ToldGoesOn}
use Rattle.kept_rows.specs.Lost.{WasRemovedRightly}
use Rattle.kept_rows.specs.Premises.{SlotPremises}
use Rattle.kept_rows.specs.Run.{Run}
use Rattle.kept_rows.specs.Scans.{AreDistinct}
use Rattle.kept_rows.specs.Sent.{IsSentOnly, SendOnlyTold}
use Rattle.kept_rows.specs.Telling.{AreSlotAccounts, IsSlotAccount}
use Rattle.kept_rows.specs.Trace.{WireTold}
use Rattle.wire_base.specs.declared.row.Row.{Row}
use Rattle.wire_base.specs.declared.talk.Piece.{Piece}
use Rattle.accounts.specs.Hidden.{Hidden, MayAllGo, MayGo, hidden_account, put_slot, with_hidden}
use Rattle.accounts.specs.Numbers.{AreAllCounted, AreNumbersOf, ArePlacedIn, IsPlacedAs, all_events, told_in_slot}
use Rattle.accounts.proofs.HiddenFollowed.{each_may_go}
use Rattle.accounts.proofs.HiddenSlots.{HasOtherSlot, found_with_hidden, has_with_hidden}
use Rattle.accounts.proofs.Numbers.{counted_with, numbers_with}

-- ---- they have no places and no events

put_adds_none : {B : Type 0} (f : SlotAccount → List B) (one : SlotAccount) (account : List SlotAccount) → f one ≡ [] → flat_map f (put_slot one account) ≡ flat_map f account
put_adds_none {B} f one [] none = ap (λ (l : List B). l ++ []) none
put_adds_none {B} f one (first ∷ account) none = by_case (nat_lt (slot_of one) (slot_of first)) (put_adds_none f one account none)
  where
    by_case : (b : Bool) → flat_map f (put_slot one account) ≡ flat_map f account →
        flat_map f (if b then one ∷ first ∷ account else first ∷ put_slot one account) ≡ flat_map f (first ∷ account)
    by_case true later = ap (λ (l : List B). l ++ flat_map f (first ∷ account)) none
    by_case false later = ap (λ (l : List B). f first ++ l) later

adds_none : {B : Type 0} (f : SlotAccount → List B) (account : List SlotAccount) (hiddens : List Hidden) → ((hidden : Hidden) → f (hidden_account hidden) ≡ []) →
    flat_map f (with_hidden account hiddens) ≡ flat_map f account
adds_none f account [] none = refl
adds_none f account (hidden ∷ hiddens) none = put_adds_none f (hidden_account hidden) (with_hidden account hiddens) (none hidden) ∙ adds_none f account hiddens none

same_places : (account : List SlotAccount) (hiddens : List Hidden) → places_in (with_hidden account hiddens) ≡ places_in account
same_places account hiddens = adds_none (λ (one : SlotAccount). flat_map places_in_epoch one.epochs) account hiddens (λ hidden. refl)

same_events : (account : List SlotAccount) (hiddens : List Hidden) → all_events (with_hidden account hiddens) ≡ all_events account
same_events account hiddens = adds_none told_in_slot account hiddens (λ hidden. refl)

pub numbers_with_hidden : (account : List SlotAccount) (hiddens : List Hidden) (shipped dropped : ℕ) → AreNumbersOf account shipped dropped → AreNumbersOf (with_hidden account hiddens) shipped dropped
numbers_with_hidden account hiddens shipped dropped = numbers_with account (with_hidden account hiddens) shipped dropped (same_events account hiddens)

pub counted_with_hidden : (account : List SlotAccount) (hiddens : List Hidden) → AreAllCounted account → AreAllCounted (with_hidden account hiddens)
counted_with_hidden account hiddens = counted_with account (with_hidden account hiddens) (same_events account hiddens)

pub placed_with_hidden : (account : List SlotAccount) (hiddens : List Hidden) (wires : List WireTold) → ArePlacedIn account wires → ArePlacedIn (with_hidden account hiddens) wires
placed_with_hidden account hiddens wires are = record {
  each = subst (AllByRecursion (λ (one : AccountedEvent). IsPlacedAs wires one.event.fate one.place)) (sym (same_events account hiddens)) are.each;
  apart = subst AreDistinct (sym (same_places account hiddens)) are.apart;
  all = λ payload place stands. subst (λ (l : List Place). Contains l place) (sym (same_places account hiddens)) (are.all payload place stands);
}

-- ---- each of them

hidden_is_numbered : (hidden : Hidden) → AreNumbered (hidden_account hidden)
hidden_is_numbered hidden = record {
  first = record { epoch = hidden.start.epoch; start = hidden.start.base; life = 0; readings = []; licences = []; told = [] };
  later = [];
  epochs_are = refl;
  first_epoch = refl;
  first_start = refl;
  numbered = tt;
}

-- its only epoch was not read
its_epochs : (run : Run) (hidden : Hidden) → AreEpochs run (hidden_account hidden)
its_epochs run hidden = record {
  numbered = hidden_is_numbered hidden;
  rises = tt;
  go_on = (tt, tt);
  in_order = (tt, tt);
  lives = (λ sight first. absurd (let q : None ≡ Some sight = first in cc), tt);
  together = refl;
}

pub in_rows_with_hidden : (account : List SlotAccount) (hiddens : List Hidden) → AreInRows account → AreInRows (with_hidden account hiddens)
in_rows_with_hidden account hiddens are =
    has_with_hidden IsInOneRow account hiddens are (λ hidden there. record { numbered = hidden_is_numbered hidden; adjoin = (tt, tt) })

module _ (run : Run) (hiddens : List Hidden) (may : MayAllGo run hiddens) where
  abbrev pub removed_rightly : (wires : List WireTold) (hidden : Hidden) → (goes : MayGo run hidden) → WasRemovedRightly run wires goes.rule (hidden_account hidden)
  removed_rightly wires hidden goes = record {
    cleans = goes.cleans;
    number = hidden.hidden_by;
    scan = goes.scan;
    scan_is = goes.scan_is;
    since = omega arith;
    whole = goes.whole;
    hidden = goes.not_shown;
    done = inl tt;
  }

  hidden_is_accounted : (hidden : Hidden) → Contains hiddens hidden → IsSlotAccount run (hidden_account hidden)
  hidden_is_accounted hidden there =
      let goes = each_may_go run hiddens may hidden there in
      record {
        rule = goes.rule;
        rule_is = goes.rule_is;
        moment = inl (sym (ap (λ (o : Option Row). option_map_or (λ (row : Row). row.changed.0) o 0) goes.found));
        of_one_file = tt;
        epochs = its_epochs run hidden;
        told = (inl refl, tt);
        went = record { why = inl (removed_rightly run.trace.wires hidden goes, omega arith) };
      }

  -- nothing is supposed of them
  pub slots_with_hidden : (account : List SlotAccount) → AreSlotAccounts run account → AreSlotAccounts run (with_hidden account hiddens)
  slots_with_hidden account are = record {
    epochs = has_with_hidden (AreEpochs run) account hiddens are.epochs (λ hidden there. its_epochs run hidden);
    each = has_with_hidden (λ (one : SlotAccount). SlotPremises run one.following → IsSlotAccount run one) account hiddens are.each (λ hidden there premises. hidden_is_accounted hidden there);
    places_apart = subst AreDistinct (sym (same_places account hiddens)) are.places_apart;
  }

-- ---- only reported events were sent

same_place : (place : Option Place) → PlaceGoesOn place place
same_place None = tt
same_place (Some place) = refl

same_told : (told : List AccountedEvent) → ToldGoesOn told told
same_told [] = tt
same_told (one ∷ told) = (refl, same_place one.place, same_told told)

same_epochs : (epochs : List EpochAccount) → EpochsGoOn EpochGoesOn epochs epochs
same_epochs [] = tt
same_epochs (epoch ∷ epochs) = (record { same_epoch = refl; same_start = refl; told = same_told epoch.told }, same_epochs epochs)

goes_on_with_hidden : (account : List SlotAccount) (hiddens : List Hidden) → AllByRecursion (HasOtherSlot hiddens) account → AccountGoesOn account (with_hidden account hiddens)
goes_on_with_hidden account hiddens apart slot one is = record {
  now = one;
  is = found_with_hidden account hiddens apart slot one is;
  on = record { same_slot = refl; same_key = refl; epochs = same_epochs one.epochs };
}

talk_with_hidden : (account : List SlotAccount) (hiddens : List Hidden) → AllByRecursion (HasOtherSlot hiddens) account → (talk : Option (List Piece)) → IsSentOnly account talk →
    IsSentOnly (with_hidden account hiddens) talk
talk_with_hidden account hiddens apart None sent = tt
talk_with_hidden account hiddens apart (Some talk) sent = stays_told account (with_hidden account hiddens) talk (goes_on_with_hidden account hiddens apart) sent

pub sent_with_hidden : (account : List SlotAccount) (hiddens : List Hidden) → AllByRecursion (HasOtherSlot hiddens) account → (wires : List WireTold) → SendOnlyTold account wires →
    SendOnlyTold (with_hidden account hiddens) wires
sent_with_hidden account hiddens apart wires sent =
    each_on (λ (wire : WireTold). AllByRecursion (IsSentOnly account) (talks_of wire)) (λ (wire : WireTold). AllByRecursion (IsSentOnly (with_hidden account hiddens)) (talks_of wire))
    (λ wire each. each_on (IsSentOnly account) (IsSentOnly (with_hidden account hiddens)) (talk_with_hidden account hiddens apart) (talks_of wire) each) wires sent
