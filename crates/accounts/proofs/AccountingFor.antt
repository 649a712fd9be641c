-- A run is accounted for by what is known of it as it ends.
use Rattle.std.proofs.Common.{Contains, List, [], ◌∷◌, Option, refl}
use Rattle.std.specs.List.{AllByRecursion}
use Rattle.kept_rows.specs.Account.{Place, SlotAccount, slot_of}
use Rattle.kept_rows.specs.Backed.{AreBacked, AreBegun, AreInRows}
use Rattle.kept_rows.specs.Epochs.{AreNumbered}
use Rattle.kept_rows.specs.Run.{Run}
use Rattle.ship_core.proofs.Members.{given_there}
use Rattle.ship_core.specs.RowsOver.{slot_for, slots_for}
use Rattle.wire_base.proofs.ByteOrder.{compare_same}
use Rattle.wire_base.specs.declared.parcel.Parcel.{Parcel}
use Rattle.slot_parts.specs.Tellings.{tellings_in}
use Rattle.accounts.specs.AccountedFor.{AccountsFor}
use Rattle.accounts.specs.Filed.{Filed, accounts_of, turned_in, turned_of}
use Rattle.accounts.specs.FollowedFile.{IsFollowedFile}
use Rattle.accounts.specs.Hidden.{Hidden, hidden_begin, hidden_key, hidden_slot, with_hidden}
use Rattle.accounts.specs.Places.{ArePlaces}
use Rattle.accounts.specs.RunTold.{RunNotes, RunTold}
use Rattle.accounts.specs.Taken.{Taken, acknowledged_in}
use Rattle.accounts.proofs.Accounts.{are_filed, are_in_epochs, are_slot_accounts, have_slots, told_once}
use Rattle.accounts.proofs.Acknowledged.{acknowledged_once}
use Rattle.accounts.proofs.Apart.{EachAdjoins}
use Rattle.accounts.proofs.Backed.{are_backed}
use Rattle.accounts.proofs.BegunRows.{are_notes}
use Rattle.accounts.proofs.Beginning.{are_begun}
use Rattle.accounts.proofs.HiddenAccounts.{in_rows_with_hidden, sent_with_hidden, slots_with_hidden}
use Rattle.accounts.proofs.HiddenFollowed.{all_followed}
use Rattle.accounts.proofs.HiddenSlots.{HasOtherSlot, files_have_others, has_with_hidden}
use Rattle.accounts.proofs.Keeping.{images_hold_kept_rows, rows_are_kept}
use Rattle.accounts.proofs.OneSlot.{slot_has_epochs}
use Rattle.accounts.proofs.Openings.{file_in_epochs}
use Rattle.accounts.proofs.Ordered.{slots_apart, turned_apart}
use Rattle.accounts.proofs.Orderly.{are_in_rows, member_is}
use Rattle.accounts.proofs.Places.{have_places}
use Rattle.accounts.proofs.Sending.{sent_only}
use Rattle.accounts.proofs.Went.{begun_keys_have_rows, files_went, newest_have_rows}

module _ (run : Run) (files : List Filed) (hiddens : List Hidden) (workers : List Taken) (notes : RunNotes) (told : RunTold run files hiddens workers notes) where
  each_adjoins : (some : List Filed) → AllByRecursion (IsFollowedFile run) some → AllByRecursion (λ (file : Filed). EachAdjoins (tellings_in (turned_in file).history)) some
  each_adjoins [] each = tt
  each_adjoins (file ∷ some) each = ((file_in_epochs run file each.0).adjoin, each_adjoins some each.1)

  each_is_numbered : (placed : Parcel → Option Place) (some : List Filed) → AllByRecursion (IsFollowedFile run) some → AllByRecursion AreNumbered (accounts_of placed some)
  each_is_numbered placed [] each = tt
  each_is_numbered placed (file ∷ some) each = ((slot_has_epochs run placed file each.0).numbered, each_is_numbered placed some each.1)

  module _ (placed : Parcel → Option Place) (places : ArePlaces placed workers run.trace.wires) where
    abbrev account : List SlotAccount
    account = with_hidden (accounts_of placed files) hiddens

    pub in_rows : AreInRows account
    in_rows = in_rows_with_hidden (accounts_of placed files) hiddens (are_in_rows placed files (are_filed run files told.followed.each) (each_adjoins files told.followed.each)
        (each_is_numbered placed files told.followed.each))

    pub backed : AreBacked account run.trace.wires notes.all
    backed =
        are_backed placed run.trace.wires files (slots_apart 0 files told.followed.slots) (are_filed run files told.followed.each) (acknowledged_in workers) places.well
        run told.followed.each hiddens told.beside notes.all (are_notes run files hiddens workers notes told).each

    hidden_is_begun : (hidden : Hidden) → Contains notes.all (hidden_begin hidden) → Contains (slots_for (hidden_key hidden) notes.all) (hidden_slot hidden)
    hidden_is_begun hidden there =
        given_there (slot_for (hidden_key hidden)) notes.all (hidden_begin hidden) (hidden_slot hidden) there (rw (compare_same (hidden_key hidden) (hidden_key hidden) refl) refl)

    pub begun : AreBegun account notes.all
    begun =
        let are = are_notes run files hiddens workers notes told in
        has_with_hidden (λ (one : SlotAccount). Contains (slots_for one.following.key notes.all) (slot_of one)) (accounts_of placed files) hiddens
        (are_begun placed notes.all files are.begun)
        (λ hidden there. hidden_is_begun hidden (member_is (λ (h : Hidden). Contains notes.all (hidden_begin h)) hiddens hidden are.hidden_begun there))

    others : AllByRecursion (HasOtherSlot hiddens) (accounts_of placed files)
    others = files_have_others placed files hiddens told.beside

    pub accounts_for : AccountsFor run account notes.all
    accounts_for = record {
      followed = all_followed run hiddens told.may_go told.by placed files told.followed told.beside notes.all told.turns;
      slots = slots_with_hidden run hiddens told.may_go (accounts_of placed files) (are_slot_accounts run placed files told.followed
          (files_went run files hiddens workers notes told placed in_rows backed) places.one_each);
      sent = sent_with_hidden (accounts_of placed files) hiddens others run.trace.wires
          (sent_only placed run.trace.wires files (slots_apart 0 files told.followed.slots) (are_filed run files told.followed.each)
          (turned_apart files told.followed.slots (have_slots run files told.followed.each)) (are_in_epochs run files told.followed.each)
          workers notes.collected told.talks told.fits (told_once run files told.followed));
      orderly = told.mixed.orderly;
      ends = rows_are_kept account run.opening run.trace.wires notes.all in_rows backed begun (newest_have_rows run files hiddens workers notes told placed);
      begun = λ rows over. begun_keys_have_rows run files hiddens workers notes told placed in_rows backed begun rows over;
      images = images_hold_kept_rows account run.opening run.trace.wires notes.all in_rows backed;
    }

  -- by the places that its workers' talks give
  pub record IsAccountedFor : Type 0 where
    pub placed : Parcel → Option Place
    pub places : ArePlaces placed workers run.trace.wires
    pub accounts : AccountsFor run (with_hidden (accounts_of placed files) hiddens) notes.all

  pub is_accounted_for : IsAccountedFor
  is_accounted_for =
      let once = acknowledged_once (turned_of files) workers notes.collected told.fits (told_once run files told.followed) in
      let have = have_places workers run.trace.wires told.talks once in
      record { placed = have.placed; places = have.are; accounts = accounts_for have.placed have.are }
