-- The places in an account are those at which its files' parcels are placed, and no two of them are the same.
use Rattle.std.proofs.Common.{◌≡◌, ℕ, suc, List, [], ◌∷◌, ◌++◌, Contains, map, Option, Some, None, refl, sym, ap, subst, ◌∙◌, append_assoc}
use Rattle.std.specs.List.{AllByRecursion, cons_option, filter_map, flat_map}
use Rattle.harvester.specs.History.{Telling}
use Rattle.kept_rows.specs.Account.{AccountedEvent, Place, places_in, places_in_epoch}
use Rattle.kept_rows.specs.Scans.{AreDistinct}
use Rattle.ship_core.proofs.Members.{there_given}
use Rattle.told_events.specs.Fate.{DroppedBy, Fate, ShippedAs}
use Rattle.told_events.specs.Told.{ToldEvent}
use Rattle.wire_base.specs.Extent.{Extent}
use Rattle.wire_base.specs.declared.numbers.Slot.{Slot}
use Rattle.wire_base.specs.declared.parcel.Parcel.{Parcel}
use Rattle.slot_parts.specs.Account.{epoch_account, events_from}
use Rattle.slot_parts.specs.Parts.{EpochParts, Part, epochs_of, told_in}
use Rattle.slot_parts.specs.Tellings.{tellings_in}
use Rattle.accounts.specs.Accounted.{place_by, place_in}
use Rattle.accounts.specs.Filed.{Filed, IsFiled, TellEpochs, account_of, accounts_of, begun_in, parts_told, turned_in, turned_of}
use Rattle.accounts.specs.Once.{AreOnce}
use Rattle.accounts.specs.Same.{same_parcel}
use Rattle.accounts.specs.Turned.{parcels_by, parcels_in, parcels_of, parcels_told}
use Rattle.accounts.proofs.Lists.{flat_map_both}
use Rattle.accounts.proofs.Often.{once_apart, once_others}
use Rattle.accounts.proofs.Same.{tells_parcels}

front_given : {B : Type 0} (o : Option B) (xs ys zs : List B) → zs ≡ xs ++ ys → cons_option o zs ≡ cons_option o xs ++ ys
front_given None xs ys zs are = are
front_given (Some y) xs ys zs are = ap (λ l. y ∷ l) are

given_both : {A B : Type 0} (g : A → Option B) (xs ys : List A) → filter_map g (xs ++ ys) ≡ filter_map g xs ++ filter_map g ys
given_both g [] ys = refl
given_both g (x ∷ xs) ys = front_given (g x) (filter_map g xs) (filter_map g ys) (filter_map g (xs ++ ys)) (given_both g xs ys)

module _ (placed : Parcel → Option Place) where
  -- ---- of a file

  module _ (slot : Slot) (epoch : ℕ) where
    of_one : (span : Extent) (fate : Fate) (places : List Place) (parcels : List Parcel) → places ≡ filter_map placed parcels →
        cons_option (place_by placed slot epoch span fate) places ≡ filter_map placed (parcels_by slot epoch span fate ++ parcels)
    of_one span (DroppedBy rule) places parcels are = are
    of_one span (ShippedAs payload) places parcels are =
        ap (cons_option (placed (record { slot = slot; epoch = record { 0 = epoch }; span = span; payload = payload }))) are

    of_events : (reading : ℕ) (told : List ToldEvent) (rest : List AccountedEvent) (parcels : List Parcel) →
        filter_map (λ (one : AccountedEvent). one.place) rest ≡ filter_map placed parcels →
        filter_map (λ (one : AccountedEvent). one.place) (map (λ (event : ToldEvent). record { event = event; reading = reading; place = place_in placed slot epoch event }) told ++ rest)
        ≡ filter_map placed (parcels_of slot epoch told ++ parcels)
    of_events reading [] rest parcels are = are
    of_events reading (one ∷ told) rest parcels are =
        of_one one.span one.fate
        (filter_map (λ (x : AccountedEvent). x.place) (map (λ (event : ToldEvent). record { event = event; reading = reading; place = place_in placed slot epoch event }) told ++ rest))
        (parcels_of slot epoch told ++ parcels) (of_events reading told rest parcels are)
        ∙ ap (filter_map placed) (sym (append_assoc (parcels_by slot epoch one.span one.fate) (parcels_of slot epoch told) parcels))

    of_parts : (reading : ℕ) (parts : List Part) →
        filter_map (λ (one : AccountedEvent). one.place) (events_from (place_in placed slot epoch) reading parts) ≡ filter_map placed (parcels_of slot epoch (told_in parts))
    of_parts reading [] = refl
    of_parts reading (part ∷ parts) =
        of_events reading part.told (events_from (place_in placed slot epoch) (suc reading) parts) (parcels_of slot epoch (told_in parts)) (of_parts (suc reading) parts)
        ∙ ap (filter_map placed) (sym (flat_map_both (λ (one : ToldEvent). parcels_by slot epoch one.span one.fate) part.told (told_in parts)))

  of_epoch : (slot : Slot) (one : EpochParts) (epoch : ℕ) (told : List ToldEvent) → one.epoch ≡ epoch → told_in one.parts ≡ told →
      places_in_epoch (epoch_account (place_in placed slot) one) ≡ filter_map placed (parcels_of slot epoch told)
  of_epoch slot one epoch told number is = of_parts slot one.epoch 0 one.parts ∙ (λ k. filter_map placed (parcels_of slot (number k) (is k)))

  of_epochs : (slot : Slot) (epochs : List EpochParts) (tellings : List Telling) → TellEpochs epochs tellings →
      flat_map places_in_epoch (map (epoch_account (place_in placed slot)) epochs) ≡ filter_map placed (flat_map (parcels_in slot) tellings)
  of_epochs slot [] [] tell = refl
  of_epochs slot [] (telling ∷ tellings) tell = absurd tell
  of_epochs slot (one ∷ epochs) [] tell =
      λ k. of_epoch slot one one.epoch [] refl tell.0 k ++ of_epochs slot epochs [] tell.1 k
  of_epochs slot (one ∷ epochs) (telling ∷ tellings) tell =
      (λ k. of_epoch slot one telling.epoch telling.told tell.0.epoch tell.0.told k ++ of_epochs slot epochs tellings tell.1 k)
      ∙ sym (given_both placed (parcels_in slot telling) (flat_map (parcels_in slot) tellings))

  -- ---- of all files

  pub places_are : (files : List Filed) → AllByRecursion IsFiled files → places_in (accounts_of placed files) ≡ filter_map placed (flat_map parcels_told (turned_of files))
  places_are [] filed = refl
  places_are (file ∷ files) filed =
      let own : flat_map places_in_epoch (account_of placed file).epochs ≡ filter_map placed (parcels_told (turned_in file)) =
      of_epochs file.opened.begin.slot (epochs_of (begun_in file).epoch (begun_in file).base (parts_told file)) (tellings_in (turned_in file).history) filed.0.tell
      ∙ ap (λ (s : Slot). filter_map placed (flat_map (parcels_in s) (tellings_in (turned_in file).history))) (sym filed.0.slot) in
      ap (λ (l : List Place). l ++ places_in (accounts_of placed files)) own
      ∙ ap (λ (l : List Place). filter_map placed (parcels_told (turned_in file)) ++ l) (places_are files filed.1)
      ∙ sym (given_both placed (parcels_told (turned_in file)) (flat_map parcels_told (turned_of files)))

  module _ (one_place : (parcel other : Parcel) (place : Place) → placed parcel ≡ Some place → placed other ≡ Some place → parcel ≡ other) where
    distinct_places : (parcels : List Parcel) → AreOnce same_parcel parcels → AreDistinct (filter_map placed parcels)
    distinct_places [] once = tt
    distinct_places (parcel ∷ parcels) once =
        by_case (placed parcel) refl (distinct_places parcels (once_others same_parcel tells_parcels parcel parcels once))
      where
        by_case : (o : Option Place) → placed parcel ≡ o → AreDistinct (filter_map placed parcels) → AreDistinct (cons_option o (filter_map placed parcels))
        by_case None is others = others
        by_case (Some place) is others = (
          λ there.
              let of = there_given placed parcels place there in
              once_apart same_parcel tells_parcels parcel parcels once
              (subst (λ (p : Parcel). Contains parcels p) (sym (one_place parcel of.0 place is of.2)) of.1),
          others,
        )

    -- no two events were acknowledged at one place
    pub places_apart : (files : List Filed) → AllByRecursion IsFiled files → AreOnce same_parcel (flat_map parcels_told (turned_of files)) → AreDistinct (places_in (accounts_of placed files))
    places_apart files filed once = subst AreDistinct (sym (places_are files filed)) (distinct_places (flat_map parcels_told (turned_of files)) once)
