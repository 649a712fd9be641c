-- The account that is made of the files of a run is one of the run, slot by slot.
use Rattle.std.proofs.Common.{◌≡◌, List, [], ◌∷◌, Option, Some, IfSome}
use Rattle.std.specs.List.{AllByRecursion, flat_map}
use Rattle.kept_rows.specs.Account.{Place, SlotAccount}
use Rattle.kept_rows.specs.Epochs.{AreEpochs}
use Rattle.kept_rows.specs.Lost.{WentBy}
use Rattle.kept_rows.specs.Premises.{SlotPremises}
use Rattle.kept_rows.specs.Run.{Run}
use Rattle.kept_rows.specs.Telling.{AreSlotAccounts, IsSlotAccount}
use Rattle.wire_base.specs.declared.parcel.Parcel.{Parcel}
use Rattle.accounts.specs.Filed.{Filed, HasItsSlot, IsFiled, account_of, accounts_of, left_in, turned_of}
use Rattle.accounts.specs.FollowedFile.{AreFollowedFiles, IsFollowedFile}
use Rattle.accounts.specs.Once.{AreOnce}
use Rattle.accounts.specs.Same.{same_parcel}
use Rattle.accounts.specs.Turned.{parcels_told}
use Rattle.accounts.proofs.Apart.{IsInEpochs, parcels_are_once}
use Rattle.accounts.proofs.OneSlot.{slot_has_epochs, slot_is_account}
use Rattle.accounts.proofs.Openings.{file_in_epochs, is_filed}
use Rattle.accounts.proofs.Ordered.{turned_apart}
use Rattle.accounts.proofs.Placing.{places_apart}

module _ (run : Run) where
  pub are_filed : (files : List Filed) → AllByRecursion (IsFollowedFile run) files → AllByRecursion IsFiled files
  are_filed [] each = tt
  are_filed (file ∷ files) each = (is_filed run file each.0, are_filed files each.1)

  pub are_in_epochs : (files : List Filed) → AllByRecursion (IsFollowedFile run) files → AllByRecursion IsInEpochs (turned_of files)
  are_in_epochs [] each = tt
  are_in_epochs (file ∷ files) each = (file_in_epochs run file each.0, are_in_epochs files each.1)

  pub have_slots : (files : List Filed) → AllByRecursion (IsFollowedFile run) files → AllByRecursion HasItsSlot files
  have_slots [] each = tt
  have_slots (file ∷ files) each = (each.0.told.slot, have_slots files each.1)

  -- no parcel was reported twice
  pub told_once : (files : List Filed) → AreFollowedFiles run files → AreOnce same_parcel (flat_map parcels_told (turned_of files))
  told_once files are =
      parcels_are_once (turned_of files) (turned_apart files are.slots (have_slots files are.each)) (are_in_epochs files are.each)

  module _ (placed : Parcel → Option Place) where
    slots_have_epochs : (files : List Filed) → AllByRecursion (IsFollowedFile run) files → AllByRecursion (AreEpochs run) (accounts_of placed files)
    slots_have_epochs [] each = tt
    slots_have_epochs (file ∷ files) each = (slot_has_epochs run placed file each.0, slots_have_epochs files each.1)

    -- if it left, its row went rightly
    abbrev pub WentWhereLeft : Filed → Type 0
    WentWhereLeft file = IfSome (left_in file) (WentBy run run.trace.wires file.opened.rule (account_of placed file))

    slots_are_accounts : (files : List Filed) → AllByRecursion (IsFollowedFile run) files → AllByRecursion WentWhereLeft files → AllByRecursion (λ (one : SlotAccount). SlotPremises run one.following → IsSlotAccount run one) (accounts_of placed files)
    slots_are_accounts [] each went = tt
    slots_are_accounts (file ∷ files) each went = (λ premises. slot_is_account run placed file each.0 premises went.0, slots_are_accounts files each.1 went.1)

    -- one place has one parcel
    pub are_slot_accounts : (files : List Filed) → AreFollowedFiles run files → AllByRecursion WentWhereLeft files →
        ((parcel other : Parcel) (place : Place) → placed parcel ≡ Some place → placed other ≡ Some place → parcel ≡ other) → AreSlotAccounts run (accounts_of placed files)
    are_slot_accounts files are went one_place = record {
      epochs = slots_have_epochs files are.each;
      each = slots_are_accounts files are.each went;
      places_apart = places_apart placed one_place files (are_filed files are.each) (told_once files are);
    }
