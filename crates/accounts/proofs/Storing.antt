-- If no note is elsewhere, each event of the account that is settled is so by a note, and rows over all notes are stored as far as events are.
use Rattle.std.proofs.Common.{◌≡◌, ℕ, suc, List, [], ◌∷◌, ◌++◌, Contains, map, Option, None, Some, refl, sym, subst}
use Rattle.std.proofs.lemmas.List.Elements.{Contains-append_left, Contains-append_right}
use Rattle.std.specs.List.{AllByRecursion, flat_map}
use Rattle.batch_worker.specs.Held.{note_of, notes_of}
use Rattle.harvester.specs.History.{Telling}
use Rattle.kept_rows.proofs.Images.{found_by_its_key}
use Rattle.kept_rows.proofs.Showing.{both}
use Rattle.kept_rows.proofs.Storing.{Covers, stored_at_the_end}
use Rattle.kept_rows.specs.Account.{AccountedEvent, EpochAccount, Place, SlotAccount}
use Rattle.kept_rows.specs.Backed.{AreBacked, AreBegun, AreInRows}
use Rattle.kept_rows.specs.Kept.{IsSettled, SettlesAs}
use Rattle.kept_rows.specs.Stored.{AreAllNoted as AreAllSettledIn, IsAllSettledBy, IsStored}
use Rattle.kept_rows.specs.Trace.{WireTold}
use Rattle.ship_core.proofs.Members.{first_there, later_there, none_there}
use Rattle.ship_core.specs.RowsOver.{AreRowsOver}
use Rattle.told_events.specs.Fate.{DroppedBy, Fate, ShippedAs, cause_of_fate}
use Rattle.told_events.specs.Told.{ToldEvent}
use Rattle.wire_base.specs.Extent.{Extent}
use Rattle.wire_base.specs.declared.note.Note.{Note}
use Rattle.wire_base.specs.declared.note.Note.TheVariants.{Settle}
use Rattle.wire_base.specs.declared.numbers.Slot.{Slot}
use Rattle.wire_base.specs.declared.parcel.Parcel.{Parcel}
use Rattle.wire_base.specs.declared.row.Row.{Row}
use Rattle.slot_parts.specs.Account.{epoch_account, events_from}
use Rattle.slot_parts.specs.Parts.{EpochParts, Part, epochs_of, told_in}
use Rattle.slot_parts.specs.Tellings.{tellings_in}
use Rattle.accounts.specs.Accounted.{place_by, place_in}
use Rattle.accounts.specs.Filed.{Filed, IsFiled, TellEpochs, account_of, accounts_of, begun_in, parts_told, turned_in, turned_of}
use Rattle.accounts.specs.Hidden.{Hidden, with_hidden}
use Rattle.accounts.specs.Places.{ArePlaces}
use Rattle.accounts.specs.Same.{same_note}
use Rattle.accounts.specs.Taken.{Taken, acknowledged_in}
use Rattle.accounts.specs.Turned.{Turned, notes_told, settlements_by, settlements_in, settlements_of}
use Rattle.accounts.proofs.Backing.{mapped_there}
use Rattle.accounts.proofs.Grounded.{each_member}
use Rattle.accounts.proofs.HiddenSlots.{has_with_hidden}
use Rattle.accounts.proofs.Keeping.{closes_by}
use Rattle.accounts.proofs.LastNotes.{flat_there, settlement_there}
use Rattle.accounts.proofs.Lists.{flat_map_both}
use Rattle.accounts.proofs.Numbers.{AreAllNoted}
use Rattle.accounts.proofs.Often.{often_back, often_contains}
use Rattle.accounts.proofs.Same.{tells_notes}

-- the note that settles an event of this slot and epoch
abbrev settlement : Slot → ℕ → ToldEvent → Note
settlement slot epoch event = Settle slot (record { 0 = epoch }) event.span (cause_of_fate event.fate)

module _ (placed : Parcel → Option Place) (workers : List Taken) (wires : List WireTold) (places : ArePlaces placed workers wires) (notes : List Note)
    (acknowledged : (parcel : Parcel) → Contains (acknowledged_in workers) parcel → Contains notes (note_of parcel)) where
  fate_is_noted : (slot : Slot) (epoch : ℕ) (span : Extent) (fate : Fate) → ((note : Note) → Contains (settlements_by slot epoch span fate) note → Contains notes note) →
      SettlesAs wires fate (place_by placed slot epoch span fate) → Contains notes (Settle slot (record { 0 = epoch }) span (cause_of_fate fate))
  fate_is_noted slot epoch span (DroppedBy rule) own settled =
      let note = Settle slot (record { 0 = epoch }) span (cause_of_fate (DroppedBy rule)) in own note (first_there note [])
  fate_is_noted slot epoch span (ShippedAs payload) own settled = by_place (record { slot = slot; epoch = record { 0 = epoch }; span = span; payload = payload })
      (placed (record { slot = slot; epoch = record { 0 = epoch }; span = span; payload = payload })) refl settled
    where
      by_place : (parcel : Parcel) (o : Option Place) → placed parcel ≡ o → SettlesAs wires (ShippedAs payload) o → Contains notes (note_of parcel)
      by_place parcel None is settled = absurd settled
      by_place parcel (Some place) is settled = acknowledged parcel (places.no_other parcel place is)

  abbrev IsNoted : Slot → ℕ → AccountedEvent → Type 0
  IsNoted slot epoch event = IsSettled wires event → Contains notes (settlement slot epoch event.event)

  events_are_noted : (slot : Slot) (epoch reading : ℕ) (told : List ToldEvent) → ((note : Note) → Contains (settlements_of slot epoch told) note → Contains notes note) →
      AllByRecursion (IsNoted slot epoch) (map (λ (event : ToldEvent). record { event = event; reading = reading; place = place_in placed slot epoch event }) told)
  events_are_noted slot epoch reading [] own = tt
  events_are_noted slot epoch reading (one ∷ told) own = (
    fate_is_noted slot epoch one.span one.fate (λ note there. own note (Contains-append_left (settlements_by slot epoch one.span one.fate) (settlements_of slot epoch told) note there)),
    events_are_noted slot epoch reading told (λ note there. own note (Contains-append_right (settlements_by slot epoch one.span one.fate) (settlements_of slot epoch told) note there)),
  )

  parts_are_noted : (slot : Slot) (epoch reading : ℕ) (parts : List Part) → ((note : Note) → Contains (settlements_of slot epoch (told_in parts)) note → Contains notes note) →
      AllByRecursion (IsNoted slot epoch) (events_from (place_in placed slot epoch) reading parts)
  parts_are_noted slot epoch reading [] own = tt
  parts_are_noted slot epoch reading (part ∷ parts) own =
      let here = settlements_of slot epoch part.told in
      let later = settlements_of slot epoch (told_in parts) in
      let both_are : here ++ later ≡ settlements_of slot epoch (part.told ++ told_in parts) =
      sym (flat_map_both (λ (one : ToldEvent). settlements_by slot epoch one.span one.fate) part.told (told_in parts)) in
      both (IsNoted slot epoch) (map (λ (event : ToldEvent). record { event = event; reading = reading; place = place_in placed slot epoch event }) part.told)
      (events_from (place_in placed slot epoch) (suc reading) parts)
      (events_are_noted slot epoch reading part.told (λ note there. own note (subst (λ (l : List Note). Contains l note) both_are (Contains-append_left here later note there))))
      (parts_are_noted slot epoch (suc reading) parts (λ note there. own note (subst (λ (l : List Note). Contains l note) both_are (Contains-append_right here later note there))))

  abbrev AreNoted : Slot → EpochAccount → Type 0
  AreNoted slot epoch = AllByRecursion (IsNoted slot epoch.epoch) epoch.told

  epochs_are_noted : (slot : Slot) (epochs : List EpochParts) (tellings : List Telling) → TellEpochs epochs tellings →
      ((telling : Telling) → Contains tellings telling → (note : Note) → Contains (settlements_in slot telling) note → Contains notes note) →
      AllByRecursion (AreNoted slot) (map (epoch_account (place_in placed slot)) epochs)
  epochs_are_noted slot [] tellings tell own = tt
  epochs_are_noted slot (one ∷ epochs) [] tell own = (
    parts_are_noted slot one.epoch 0 one.parts
        (λ note there. absurd (none_there note (subst (λ (l : List ToldEvent). Contains (settlements_of slot one.epoch l) note) tell.0 there))),
    epochs_are_noted slot epochs [] tell.1 own,
  )
  epochs_are_noted slot (one ∷ epochs) (telling ∷ tellings) tell own = (
    parts_are_noted slot one.epoch 0 one.parts
        (λ note there. own telling (first_there telling tellings) note
        (subst (λ (l : List Note). Contains l note) (λ k. settlements_of slot (tell.0.epoch k) (tell.0.told k)) there)),
    epochs_are_noted slot epochs tellings tell.1 (λ other there. own other (later_there telling other tellings there)),
  )

  file_is_noted : (file : Filed) → IsFiled file → ((note : Note) → Contains (notes_told (turned_in file)) note → Contains notes note) →
      AllByRecursion (AreAllSettledIn notes wires (account_of placed file)) (account_of placed file).epochs
  file_is_noted file filed own =
      epochs_are_noted file.opened.begin.slot (epochs_of (begun_in file).epoch (begun_in file).base (parts_told file)) (tellings_in (turned_in file).history) filed.tell
      (λ telling among note there. own note (settlement_there file.turned.slot (tellings_in (turned_in file).history) telling note among
      (subst (λ (s : Slot). Contains (settlements_in s telling) note) (sym filed.slot) there)))

  all_are_noted : (files : List Filed) → AllByRecursion IsFiled files → ((turned : Turned) → Contains (turned_of files) turned → (note : Note) → Contains (notes_told turned) note → Contains notes note) →
      IsAllSettledBy notes wires (accounts_of placed files)
  all_are_noted [] filed own = tt
  all_are_noted (file ∷ files) filed own = (
    file_is_noted file filed.0 (own (turned_in file) (first_there (turned_in file) (turned_of files))),
    all_are_noted files filed.1 (λ turned there. own turned (later_there (turned_in file) turned (turned_of files) there)),
  )

module _ (covers : Covers) (placed : Parcel → Option Place) (workers : List Taken) (wires : List WireTold) (places : ArePlaces placed workers wires) (files : List Filed)
    (filed : AllByRecursion IsFiled files) (hiddens : List Hidden) (notes collected : List Note) (within : (note : Note) → Contains collected note → Contains notes note)
    (noted : AreAllNoted (turned_of files) workers collected) where
  abbrev told_notes : List Note
  told_notes = flat_map notes_told (turned_of files)

  abbrev account : List SlotAccount
  account = with_hidden (accounts_of placed files) hiddens

  in_notes : (note : Note) → Contains (told_notes ++ notes_of (acknowledged_in workers)) note → Contains notes note
  in_notes note there =
      within note
      (often_contains same_note tells_notes collected (told_notes ++ notes_of (acknowledged_in workers)) note
      (often_back (told_notes ++ notes_of (acknowledged_in workers)) collected noted.notes_are) there)

  settled_by_notes : IsAllSettledBy notes wires account
  settled_by_notes =
      has_with_hidden (λ (one : SlotAccount). AllByRecursion (AreAllSettledIn notes wires one) one.epochs) (accounts_of placed files) hiddens
      (all_are_noted placed workers wires places notes
      (λ parcel there. in_notes (note_of parcel) (Contains-append_right told_notes (notes_of (acknowledged_in workers)) (note_of parcel) (mapped_there note_of (acknowledged_in workers) parcel there)))
      files filed
      (λ turned among note there. in_notes note (Contains-append_left told_notes (notes_of (acknowledged_in workers)) note (flat_there notes_told (turned_of files) turned note among there))))
      (λ hidden there. (tt, tt))

  pub rows_are_stored : AreInRows account → AreBacked account wires notes → AreBegun account notes →
      (opening rows : List Row) → AreRowsOver opening notes rows → AllByRecursion (IsStored account wires) rows
  rows_are_stored in_rows backed begun opening rows over =
      each_member (IsStored account wires) rows
      (λ row there. stored_at_the_end account wires notes settled_by_notes covers closes_by in_rows backed opening rows begun over row.key row
      (found_by_its_key rows row over.in_order there))
