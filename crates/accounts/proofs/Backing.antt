-- What files gave is backed by their accounts: the Begin of each, its announcements, and settlements of its events.
use Rattle.std.proofs.Common.{◌≡◌, ◌⊎◌, inl, inr, ℕ, suc, ◌≤◌, ◌==◌, List, [], ◌∷◌, ◌++◌, Contains, IsSome, map, Option, Some, refl, sym, ap, subst, ◌∙◌, if◌then◌else◌}
use Rattle.std.specs.Option.{option_and_then}
use Rattle.std.proofs.lemmas.Bool.{cond-false, cond-true, eq-eqb, ne_eqb}
use Rattle.std.proofs.lemmas.List.Elements.{Contains-append_cases, Contains-append_left, Contains-append_right}
use Rattle.harvester.specs.History.{Telling}
use Rattle.kept_rows.specs.Account.{AccountedEvent, EpochAccount, Place, SlotAccount, epoch_at, epoch_of, slot_at}
use Rattle.kept_rows.specs.Acknowledged.{IsAcknowledgedAt}
use Rattle.kept_rows.specs.Backed.{Backs, BacksMoment, BacksSettle}
use Rattle.kept_rows.specs.Kept.{SettlesAs}
use Rattle.kept_rows.specs.Scans.{AreDistinct}
use Rattle.kept_rows.specs.Trace.{WireTold}
use Rattle.ship_core.proofs.Members.{first_there, later_there, none_there, there_cases}
use Rattle.told_events.specs.Fate.{DroppedBy, Fate, ShippedAs, cause_of_fate}
use Rattle.told_events.specs.Told.{ToldEvent}
use Rattle.wire_base.specs.Extent.{Extent}
use Rattle.wire_base.specs.declared.note.Cause.{Cause}
use Rattle.wire_base.specs.declared.note.Cause.TheVariants.{Acked}
use Rattle.wire_base.specs.declared.note.Note.{Note}
use Rattle.wire_base.specs.declared.note.Note.TheVariants.{Announce, Begin, Settle}
use Rattle.wire_base.specs.declared.numbers.Moment.{Moment}
use Rattle.wire_base.specs.declared.numbers.Slot.{Slot}
use Rattle.wire_base.specs.declared.parcel.Parcel.{Parcel}
use Rattle.slot_parts.specs.Account.{epoch_account, events_from}
use Rattle.slot_parts.specs.Parts.{EpochParts, Part, epochs_of, told_in}
use Rattle.slot_parts.specs.Tellings.{tellings_in}
use Rattle.accounts.specs.Accounted.{place_by, place_in}
use Rattle.accounts.specs.Filed.{Filed, IsFiled, TellEpoch, TellEpochs, account_of, accounts_of, begun_in, parts_told, slot_in, turned_in}
use Rattle.accounts.specs.Ground.{IsSettlementOf}
use Rattle.accounts.proofs.Apart.{epochs_apart, numbers_of}

pub mapped_there : {A B : Type 0} (f : A → B) (xs : List A) (x : A) → Contains xs x → Contains (map f xs) (f x)
mapped_there f [] x there = absurd (none_there x there)
mapped_there f (first ∷ xs) x there = by_case (there_cases first x xs there) (mapped_there f xs x)
  where
    by_case : (first ≡ x) ⊎ Contains xs x → (Contains xs x → Contains (map f xs) (f x)) → Contains (f first ∷ map f xs) (f x)
    by_case (inl same) others = subst (λ y. Contains (f first ∷ map f xs) (f y)) same (first_there (f first) (map f xs))
    by_case (inr later) others = later_there (f first) (f x) (map f xs) (others later)

-- ---- found in the account

module _ (placed : Parcel → Option Place) where
  pub slot_found : (files : List Filed) (file : Filed) → Contains files file → AreDistinct (map slot_in files) → slot_at (slot_in file) (accounts_of placed files) ≡ Some (account_of placed file)
  slot_found [] file there apart = absurd (none_there file there)
  slot_found (first ∷ files) file there apart =
      by_case (there_cases first file files there) (λ later. slot_found files file later apart.1)
    where
      by_case : (first ≡ file) ⊎ Contains files file → (Contains files file → slot_at (slot_in file) (accounts_of placed files) ≡ Some (account_of placed file)) →
          (if slot_in first == slot_in file then Some (account_of placed first) else slot_at (slot_in file) (accounts_of placed files)) ≡ Some (account_of placed file)
      by_case (inl same) further =
          cond-true (slot_in first == slot_in file) (Some (account_of placed first)) (slot_at (slot_in file) (accounts_of placed files))
          (eq-eqb (slot_in first) (slot_in file) (ap slot_in same))
          ∙ ap (λ (f : Filed). Some (account_of placed f)) same
      by_case (inr later) further =
          cond-false (slot_in first == slot_in file) (Some (account_of placed first)) (slot_at (slot_in file) (accounts_of placed files))
          (ne_eqb (slot_in first) (slot_in file) (λ same. apart.0 (subst (λ (n : ℕ). Contains (map slot_in files) n) (sym same) (mapped_there slot_in files file later))))
          ∙ further later

  -- an event of the epoch is in it, with the place of its parcel
  pub record HasEvent (slot : Slot) (number : ℕ) (event : ToldEvent) (told : List AccountedEvent) : Type 0 where
    pub one : AccountedEvent
    pub there : Contains told one
    pub event_is : one.event ≡ event
    pub place_is : one.place ≡ place_in placed slot number event

  one_later : (slot : Slot) (number : ℕ) (event : ToldEvent) (front told : List AccountedEvent) → HasEvent slot number event told → HasEvent slot number event (front ++ told)
  one_later slot number event front told has =
      record { one = has.one; there = Contains-append_right front told has.one has.there; event_is = has.event_is; place_is = has.place_is }

  event_there : (slot : Slot) (number : ℕ) (event : ToldEvent) (reading : ℕ) (parts : List Part) → Contains (told_in parts) event →
      HasEvent slot number event (events_from (place_in placed slot number) reading parts)
  event_there slot number event reading [] there = absurd (none_there event there)
  event_there slot number event reading (part ∷ parts) there =
      by_case (Contains-append_cases part.told (told_in parts) event there) (event_there slot number event (suc reading) parts)
    where
      by_case : Contains part.told event ⊎ Contains (told_in parts) event →
          (Contains (told_in parts) event → HasEvent slot number event (events_from (place_in placed slot number) (suc reading) parts)) →
          HasEvent slot number event (events_from (place_in placed slot number) reading (part ∷ parts))
      by_case (inl here) later = record {
        one = record { event = event; reading = reading; place = place_in placed slot number event };
        there = Contains-append_left _ (events_from (place_in placed slot number) (suc reading) parts) _
            (mapped_there (λ (one : ToldEvent). record { event = one; reading = reading; place = place_in placed slot number one }) part.told event here);
        event_is = refl;
        place_is = refl;
      }
      by_case (inr behind) later = one_later slot number event _ (events_from (place_in placed slot number) (suc reading) parts) (later behind)

  pub record HasEpoch (slot : Slot) (telling : Telling) (found : Option EpochAccount) : Type 0 where
    pub epoch : EpochAccount
    pub is : found ≡ Some epoch
    pub has : (event : ToldEvent) → Contains telling.told event → HasEvent slot telling.epoch event epoch.told

  epoch_has : (slot : Slot) (parts : EpochParts) (telling : Telling) → TellEpoch parts telling → (event : ToldEvent) → Contains telling.told event →
      HasEvent slot telling.epoch event (epoch_account (place_in placed slot) parts).told
  epoch_has slot parts telling is event there =
      subst (λ (n : ℕ). HasEvent slot telling.epoch event (events_from (place_in placed slot n) 0 parts.parts)) (sym is.epoch)
      (event_there slot telling.epoch event 0 parts.parts (subst (λ (l : List ToldEvent). Contains l event) (sym is.told) there))

  epoch_found : (slot : Slot) (epochs : List EpochParts) (tellings : List Telling) (telling : Telling) → TellEpochs epochs tellings → Contains tellings telling →
      AreDistinct (numbers_of tellings) → HasEpoch slot telling (epoch_at telling.epoch (map (epoch_account (place_in placed slot)) epochs))
  epoch_found slot [] [] telling tell there apart = absurd (none_there telling there)
  epoch_found slot [] (first ∷ tellings) telling tell there apart = absurd tell
  epoch_found slot (one ∷ epochs) [] telling tell there apart = absurd (none_there telling there)
  epoch_found slot (one ∷ epochs) (first ∷ tellings) telling tell there apart =
      by_case (there_cases first telling tellings there) (λ later. epoch_found slot epochs tellings telling tell.1 later apart.1)
    where
      by_case : (first ≡ telling) ⊎ Contains tellings telling →
          (Contains tellings telling → HasEpoch slot telling (epoch_at telling.epoch (map (epoch_account (place_in placed slot)) epochs))) →
          HasEpoch slot telling (if one.epoch == telling.epoch then Some (epoch_account (place_in placed slot) one) else epoch_at telling.epoch (map (epoch_account (place_in placed slot)) epochs))
      by_case (inl same) further = record {
        epoch = epoch_account (place_in placed slot) one;
        is = cond-true (one.epoch == telling.epoch) (Some (epoch_account (place_in placed slot) one)) (epoch_at telling.epoch (map (epoch_account (place_in placed slot)) epochs))
            (eq-eqb one.epoch telling.epoch (tell.0.epoch ∙ ap (λ (t : Telling). t.epoch) same));
        has = epoch_has slot one telling (subst (TellEpoch one) same tell.0);
      }
      by_case (inr later) further =
          let found = further later in
          record {
            epoch = found.epoch;
            is = cond-false (one.epoch == telling.epoch) (Some (epoch_account (place_in placed slot) one)) (epoch_at telling.epoch (map (epoch_account (place_in placed slot)) epochs))
                (ne_eqb one.epoch telling.epoch
                (λ same. apart.0 (subst (λ (n : ℕ). Contains (numbers_of tellings) n) (sym (sym tell.0.epoch ∙ same)) (mapped_there (λ (t : Telling). t.epoch) tellings telling later))))
                ∙ found.is;
            has = found.has;
          }

  -- ---- notes

  module _ (wires : List WireTold) (files : List Filed) (apart : AreDistinct (map slot_in files)) (file : Filed) (among : Contains files file) (filed : IsFiled file) where
    abbrev account : List SlotAccount
    account = accounts_of placed files

    slot_is : (turned_in file).slot.0 ≡ slot_in file
    slot_is = ap (λ (s : Slot). s.0) filed.slot

    pub epoch_in : (telling : Telling) → Contains (tellings_in (turned_in file).history) telling →
        HasEpoch file.opened.begin.slot telling (epoch_of account (turned_in file).slot.0 telling.epoch)
    epoch_in telling there =
        let numbers = epochs_apart (begun_in file).epoch (begun_in file).base (tellings_in (turned_in file).history) filed.epochs in
        let found = epoch_found file.opened.begin.slot (epochs_of (begun_in file).epoch (begun_in file).base (parts_told file)) (tellings_in (turned_in file).history) telling
        filed.tell there numbers in
        record {
          epoch = found.epoch;
          is = ap (λ (n : ℕ). epoch_of account n telling.epoch) slot_is
              ∙ ap (λ (o : Option SlotAccount). option_and_then (λ one. epoch_at telling.epoch one.epochs) o) (slot_found files file among apart)
              ∙ found.is;
          has = found.has;
        }

    pub begin_is_backed : (key path : List ℕ) (changed : Moment) → key ≡ file.opened.begin.key → changed.0 ≤ file.changed →
        Backs account wires (Begin file.opened.begin.slot key path (record { 0 = (begun_in file).epoch }) (begun_in file).base changed)
    begin_is_backed key path changed key_is within = (
      record {
        one = account_of placed file;
        slot_is = slot_found files file among apart;
        key_is = sym key_is;
        epoch_is = refl;
        base_is = refl;
      },
      record { one = account_of placed file; slot_is = slot_found files file among apart; moment_within = within },
    )

    pub moment_is_backed : (changed : ℕ) → changed ≤ file.changed → BacksMoment account (slot_in file) changed
    moment_is_backed changed within = record { one = account_of placed file; slot_is = slot_found files file among apart; moment_within = within }

    module _ (telling : Telling) (there : Contains (tellings_in (turned_in file).history) telling) where
      pub announcement_is_backed : Backs account wires (Announce (turned_in file).slot (record { 0 = telling.epoch }))
      announcement_is_backed = subst (λ (o : Option EpochAccount). IsSome o) (sym (epoch_in telling there).is) refl

      event_is_settled : (event : ToldEvent) (cause : Cause) → Contains telling.told event → cause_of_fate event.fate ≡ cause →
          SettlesAs wires event.fate (place_by placed file.opened.begin.slot telling.epoch event.span event.fate) →
          BacksSettle account wires (turned_in file).slot.0 telling.epoch event.span cause
      event_is_settled event cause told cause_is settled =
          let has = (epoch_in telling there).has event told in
          record {
            told_in = (epoch_in telling there).epoch;
            epoch_is = (epoch_in telling there).is;
            one = has.one;
            told = has.there;
            span_is = ap (λ (e : ToldEvent). e.span) has.event_is;
            cause_is = ap (λ (e : ToldEvent). cause_of_fate e.fate) has.event_is ∙ cause_is;
            settled = subst (λ (e : ToldEvent). SettlesAs wires e.fate has.one.place) (sym has.event_is)
                (subst (λ (o : Option Place). SettlesAs wires event.fate o) (sym has.place_is) settled);
          }

      pub dropped_is_backed : (note : Note) → IsSettlementOf (turned_in file) telling note → Backs account wires note
      dropped_is_backed note of =
          subst (Backs account wires) (sym of.is)
          (event_is_settled of.event (cause_of_fate (DroppedBy of.rule)) of.told (ap cause_of_fate of.fate_is)
          (subst (λ (fate : Fate). SettlesAs wires fate (place_by placed file.opened.begin.slot telling.epoch of.event.span fate)) (sym of.fate_is) tt))

      -- of a parcel that was acknowledged where it is placed
      pub acknowledged_is_backed : (event : ToldEvent) (parcel : Parcel) (place : Place) → Contains telling.told event → parcel.slot ≡ (turned_in file).slot → parcel.epoch.0 ≡ telling.epoch →
          parcel.span ≡ event.span → event.fate ≡ ShippedAs parcel.payload → placed parcel ≡ Some place → IsAcknowledgedAt wires parcel.payload place →
          Backs account wires (Settle parcel.slot parcel.epoch parcel.span Acked)
      acknowledged_is_backed event parcel place told slot epoch span fate at acknowledged =
          let slots : file.opened.begin.slot ≡ parcel.slot = sym filed.slot ∙ sym slot in
          let epochs : telling.epoch ≡ parcel.epoch.0 = sym epoch in
          let spans : event.span ≡ parcel.span = sym span in
          let made : Parcel = record { slot = file.opened.begin.slot; epoch = record { 0 = telling.epoch }; span = event.span; payload = parcel.payload } in
          let is : made ≡ parcel = λ k. record { slot = slots k; epoch = record { 0 = epochs k }; span = spans k; payload = parcel.payload } in
          let settled : SettlesAs wires (ShippedAs parcel.payload) (placed made) =
          subst (λ (o : Option Place). SettlesAs wires (ShippedAs parcel.payload) o) (sym (ap placed is ∙ at)) acknowledged in
          let backed = event_is_settled event Acked told (ap cause_of_fate fate)
          (subst (λ (one : Fate). SettlesAs wires one (place_by placed file.opened.begin.slot telling.epoch event.span one)) (sym fate) settled) in
          let by_slot = subst (λ (s : Slot). BacksSettle account wires s.0 telling.epoch event.span Acked) (sym slot) backed in
          let by_epoch = subst (λ (n : ℕ). BacksSettle account wires parcel.slot.0 n event.span Acked) epochs by_slot in
          subst (λ (e : Extent). BacksSettle account wires parcel.slot.0 parcel.epoch.0 e Acked) spans by_epoch
