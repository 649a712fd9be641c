-- Each event of an account is placed where its payload is acknowledged, no two at one place, and each acknowledged payload is that of
-- an event.
use Rattle.std.proofs.Common.{◌≡◌, ℕ, suc, List, [], ◌∷◌, Contains, map, Option, Some, None, refl, sym, subst, ◌∙◌}
use Rattle.std.specs.List.{AllByRecursion, flat_map}
use Rattle.kept_rows.proofs.Showing.{both}
use Rattle.kept_rows.specs.Account.{AccountedEvent, Place, places_in}
use Rattle.kept_rows.specs.Acknowledged.{IsAcknowledgedAt}
use Rattle.kept_rows.specs.Trace.{WireTold}
use Rattle.ship_core.proofs.Members.{given_there}
use Rattle.told_events.specs.Fate.{DroppedBy, Fate, ShippedAs}
use Rattle.told_events.specs.Told.{ToldEvent}
use Rattle.wire_base.specs.Extent.{Extent}
use Rattle.wire_base.specs.declared.note.Note.{Note}
use Rattle.wire_base.specs.declared.numbers.Slot.{Slot}
use Rattle.wire_base.specs.declared.parcel.Parcel.{Parcel}
use Rattle.slot_parts.specs.Account.{epoch_account, events_from}
use Rattle.slot_parts.specs.Parts.{EpochParts, Part, epochs_of}
use Rattle.accounts.specs.Accounted.{place_by, place_in}
use Rattle.accounts.specs.Filed.{Filed, IsFiled, account_of, accounts_of, begun_in, parts_told, turned_of}
use Rattle.accounts.specs.Numbers.{ArePlacedIn, IsPlacedAs, all_events, told_in_epoch, told_in_slot}
use Rattle.accounts.specs.Once.{AreOnce}
use Rattle.accounts.specs.Places.{ArePlaces}
use Rattle.accounts.specs.Same.{same_parcel}
use Rattle.accounts.specs.Taken.{FitBooks, Taken, acknowledged_in}
use Rattle.accounts.specs.Turned.{parcels_told}
use Rattle.accounts.proofs.Acknowledged.{told_there}
use Rattle.accounts.proofs.Placing.{places_apart, places_are}

module _ (placed : Parcel → Option Place) (workers : List Taken) (wires : List WireTold) (places : ArePlaces placed workers wires) where
  abbrev IsPlaced : AccountedEvent → Type 0
  IsPlaced one = IsPlacedAs wires one.event.fate one.place

  parcel_is_placed : (parcel : Parcel) (o : Option Place) → placed parcel ≡ o → IsPlacedAs wires (ShippedAs parcel.payload) o
  parcel_is_placed parcel None is = tt
  parcel_is_placed parcel (Some place) is =
      let well = places.well parcel (places.no_other parcel place is) in
      let q : Some well.place ≡ Some place = sym well.is ∙ is in
      let same : well.place ≡ place = cc in
      subst (IsAcknowledgedAt wires parcel.payload) same well.stands

  fate_is_placed : (slot : Slot) (epoch : ℕ) (span : Extent) (fate : Fate) → IsPlacedAs wires fate (place_by placed slot epoch span fate)
  fate_is_placed slot epoch span (DroppedBy rule) = refl
  fate_is_placed slot epoch span (ShippedAs payload) =
      parcel_is_placed (record { slot = slot; epoch = record { 0 = epoch }; span = span; payload = payload }) (placed (record { slot = slot; epoch = record { 0 = epoch }; span = span; payload = payload })) refl

  events_are_placed : (slot : Slot) (epoch reading : ℕ) (told : List ToldEvent) →
      AllByRecursion IsPlaced (map (λ (event : ToldEvent). record { event = event; reading = reading; place = place_in placed slot epoch event }) told)
  events_are_placed slot epoch reading [] = tt
  events_are_placed slot epoch reading (one ∷ told) = (fate_is_placed slot epoch one.span one.fate, events_are_placed slot epoch reading told)

  parts_are_placed : (slot : Slot) (epoch reading : ℕ) (parts : List Part) → AllByRecursion IsPlaced (events_from (place_in placed slot epoch) reading parts)
  parts_are_placed slot epoch reading [] = tt
  parts_are_placed slot epoch reading (part ∷ parts) =
      both IsPlaced (map (λ (event : ToldEvent). record { event = event; reading = reading; place = place_in placed slot epoch event }) part.told)
      (events_from (place_in placed slot epoch) (suc reading) parts) (events_are_placed slot epoch reading part.told) (parts_are_placed slot epoch (suc reading) parts)

  epochs_are_placed : (slot : Slot) (epochs : List EpochParts) → AllByRecursion IsPlaced (flat_map told_in_epoch (map (epoch_account (place_in placed slot)) epochs))
  epochs_are_placed slot [] = tt
  epochs_are_placed slot (one ∷ epochs) =
      both IsPlaced (events_from (place_in placed slot one.epoch) 0 one.parts) (flat_map told_in_epoch (map (epoch_account (place_in placed slot)) epochs))
      (parts_are_placed slot one.epoch 0 one.parts) (epochs_are_placed slot epochs)

  each_placed : (files : List Filed) → AllByRecursion IsPlaced (all_events (accounts_of placed files))
  each_placed [] = tt
  each_placed (file ∷ files) =
      both IsPlaced (told_in_slot (account_of placed file)) (all_events (accounts_of placed files))
      (epochs_are_placed file.opened.begin.slot (epochs_of (begun_in file).epoch (begun_in file).base (parts_told file))) (each_placed files)

  -- each acknowledged parcel was reported, so its place is that of its event
  all_placed : (files : List Filed) → AllByRecursion IsFiled files → ((parcel : Parcel) → Contains (acknowledged_in workers) parcel → Contains (flat_map parcels_told (turned_of files)) parcel) →
      (payload : List ℕ) (place : Place) → IsAcknowledgedAt wires payload place → Contains (places_in (accounts_of placed files)) place
  all_placed files filed told payload place stands =
      let of = places.every payload place stands in
      subst (λ (l : List Place). Contains l place) (sym (places_are placed files filed))
      (given_there placed (flat_map parcels_told (turned_of files)) of.0 place (told of.0 (places.no_other of.0 place of.1)) of.1)

  pub are_placed : (files : List Filed) (collected : List Note) → AllByRecursion IsFiled files → AreOnce same_parcel (flat_map parcels_told (turned_of files)) → FitBooks (turned_of files) workers collected →
      ArePlacedIn (accounts_of placed files) wires
  are_placed files collected filed once fits = record {
    each = each_placed files;
    apart = places_apart placed places.one_each files filed once;
    all = all_placed files filed (told_there (turned_of files) workers collected fits);
  }
