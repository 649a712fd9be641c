-- Slots of a run that have no row over its notes: each went rightly, a file as it was removed, and a hidden row as it may go. And only the
-- newest slot of a key has a row.
use Rattle.std.proofs.Common.{◌≡◌, ◌⊎◌, inl, inr, ℕ, ◌≤◌, List, [], ◌∷◌, Contains, Option, None, Some, IfSome, refl, sym, ap, subst, ◌∙◌}
use Rattle.std.specs.List.{AllByRecursion}
use Rattle.kept_rows.proofs.Begun.{IsNoForget}
use Rattle.kept_rows.proofs.Forgotten.{forgotten}
use Rattle.kept_rows.specs.Account.{EpochAccount, Place, SlotAccount, key_of, slot_of}
use Rattle.kept_rows.specs.Backed.{AreBacked, AreBegun, AreInRows, OnlyTheNewestHaveRows}
use Rattle.kept_rows.specs.Kept.{IsSettled}
use Rattle.kept_rows.specs.Lost.{IsRightlyLost, WasRemovedRightly, WentBy}
use Rattle.kept_rows.specs.Run.{Run}
use Rattle.ship_core.proofs.Members.{first_there, later_there}
use Rattle.ship_core.specs.RowOver.{Start, row_over, slot_of as slot_named}
use Rattle.ship_core.specs.Rows.{find}
use Rattle.ship_core.specs.RowsOver.{AreRowsOver}
use Rattle.wire_base.specs.declared.note.Note.{Note}
use Rattle.wire_base.specs.declared.parcel.Parcel.{Parcel}
use Rattle.wire_base.specs.declared.row.Row.{Row}
use Rattle.accounts.specs.AccountedFor.{HasItsRow}
use Rattle.accounts.specs.Filed.{Filed, Removal, account_of, accounts_of, begun_in, left_by, left_in, slot_in, turned_of}
use Rattle.accounts.specs.FollowedFile.{IsFollowedFile, WasRemovedBy, key_in}
use Rattle.accounts.specs.Hidden.{Hidden, hidden_account, with_hidden}
use Rattle.accounts.specs.RunTold.{LeftWithoutRow, RunNotes, RunTold, all_slots}
use Rattle.accounts.specs.Taken.{Taken, acknowledged_in}
use Rattle.accounts.proofs.Accounts.{WentWhereLeft}
use Rattle.accounts.proofs.Backing.{slot_found}
use Rattle.accounts.proofs.BegunRows.{are_notes, found_key, found_there}
use Rattle.accounts.proofs.Grounded.{each_member}
use Rattle.accounts.proofs.HiddenAccounts.{removed_rightly as hidden_went}
use Rattle.accounts.proofs.HiddenFollowed.{all_among, each_may_go}
use Rattle.accounts.proofs.HiddenSlots.{files_have_others, found_with_hidden, has_with_hidden}
use Rattle.accounts.proofs.Keeping.{closes_by}
use Rattle.accounts.proofs.LastNotes.{is_started, no_forget, own_note}
use Rattle.accounts.proofs.LostRows.{GoesRightly, lost_key}
use Rattle.accounts.proofs.Ordered.{is_collectable, slots_apart}
use Rattle.accounts.proofs.Orderly.{member_is}
use Rattle.accounts.proofs.Removing.{earlier_epochs, epochs_are, last_epoch, removed_rightly, same_end}

module _ (run : Run) (files : List Filed) (hiddens : List Hidden) (workers : List Taken) (notes : RunNotes) (told : RunTold run files hiddens workers notes) (placed : Parcel → Option Place) where
  abbrev all : List SlotAccount
  all = with_hidden (accounts_of placed files) hiddens

  -- each of the account, as it is of a file or of a hidden row
  each_slot : (P : SlotAccount → Type 0) → ((file : Filed) → Contains files file → P (account_of placed file)) → ((hidden : Hidden) → Contains hiddens hidden → P (hidden_account hidden)) →
      AllByRecursion P all
  each_slot P of_file of_hidden = has_with_hidden P (accounts_of placed files) hiddens (each_file files (λ file there. there)) of_hidden
    where
      each_file : (some : List Filed) → ((file : Filed) → Contains some file → Contains files file) → AllByRecursion P (accounts_of placed some)
      each_file [] among = tt
      each_file (file ∷ some) among =
          (of_file file (among file (first_there file some)), each_file some (λ other there. among other (later_there file other some there)))

  -- ---- slots of one key

  pub newest_have_rows : OnlyTheNewestHaveRows all notes.all
  newest_have_rows one newer there behind same less =
      let among = all_among run hiddens told.may_go told.by placed files told.followed told.beside notes.all told.turns in
      let of = λ (other : SlotAccount) (there : Contains all other). member_is (λ (s : SlotAccount). Contains (all_slots files hiddens) s.following) all other among there in
      told.turns.no_row one.following newer.following (of one there) (of newer behind) less same

  -- ---- a file without a row

  module _ (in_rows : AreInRows all) (backed : AreBacked all run.trace.wires notes.all) where
    module _ (file : Filed) (among : Contains files file) where
      followed : IsFollowedFile run file
      followed = member_is (IsFollowedFile run) files file told.followed.each among

      pub record IsGone : Type 0 where
        pub removal : Removal
        pub removed : file.removed ≡ Some removal
        pub by : WasRemovedBy run file removal
        pub went : WasRemovedRightly run run.trace.wires file.opened.rule (account_of placed file)
        pub number_is : went.number ≡ removal.hidden_by

      -- what lets its row go is its Forget
      was_removed : (note : Note) → Contains notes.all note → slot_named note ≡ slot_in file → (IsNoForget note → ⊥) → (removal : Removal) × (file.removed ≡ Some removal)
      was_removed note there slot is_forget =
          own_note run files hiddens (acknowledged_in workers) notes.all (slots_apart 0 files told.followed.slots) told.beside (are_notes run files hiddens workers notes told) file among
          (λ (n : Note). (IsNoForget n → ⊥) → (removal : Removal) × (file.removed ≡ Some removal))
          (λ n begin not. absurd (not (subst IsNoForget (sym begin.is) tt)))
          (λ n seen same not. absurd (not (subst IsNoForget (sym seen.is) tt)))
          (λ n ground not. absurd (not (no_forget n (is_collectable (turned_of files) (acknowledged_in workers) n ground))))
          (λ n named not. absurd (not (subst IsNoForget (sym named.is) tt)))
          (λ n forget not. (forget.removal, forget.removed))
          note there slot is_forget

      same_slot : (first second : SlotAccount) → Some first ≡ Some second → first ≡ second
      same_slot first second same = cc

      pub is_gone : row_over (slot_in file) notes.all ≡ None → IsGone
      is_gone none =
          let apart = slots_apart 0 files told.followed.slots in
          let started = is_started run files hiddens (acknowledged_in workers) notes.all apart told.beside (are_notes run files hiddens workers notes told) file among in
          let start : Start = record { key = key_in file; path = started.path; epoch = (begun_in file).epoch; base = (begun_in file).base } in
          let gone = forgotten closes_by all run.trace.wires notes.all in_rows backed (slot_in file) start started.is none in
          let of = was_removed gone.note gone.there gone.of_slot gone.is_forget in
          let by = subst (λ (o : Option Removal). IfSome o (WasRemovedBy run file)) of.1 followed.removed in
          let found = found_with_hidden (accounts_of placed files) hiddens (files_have_others placed files hiddens told.beside) (slot_in file) (account_of placed file) (slot_found placed files file among apart) in
          let same = same_slot gone.one (account_of placed file) (sym gone.slot_is ∙ found) in
          let last : gone.last ≡ last_epoch run placed file followed by.rests =
          same_end gone.earlier (earlier_epochs run placed file followed by.rests) gone.last (last_epoch run placed file followed by.rests)
          (sym gone.epochs_are ∙ ap (λ (o : SlotAccount). o.epochs) same ∙ epochs_are run placed file followed by.rests) in
          record {
            removal = of.0;
            removed = of.1;
            by = by;
            went = removed_rightly run placed file followed by.rests run.trace.wires (subst (λ (e : EpochAccount). AllByRecursion (IsSettled run.trace.wires) e.told) last gone.settled) of.0 by;
            number_is = refl;
          }

      -- so it went where it left
      went_where_left : LeftWithoutRow notes.all file → WentWhereLeft run placed file
      went_where_left none = by_left (left_in file) refl none
        where
          by_left : (o : Option ℕ) → left_in file ≡ o → IfSome o (λ last. row_over (slot_in file) notes.all ≡ None) →
              IfSome o (WentBy run run.trace.wires file.opened.rule (account_of placed file))
          by_left None is without = tt
          by_left (Some last) is without =
              let gone = is_gone without in
              let within = subst (λ (o : Option ℕ). IfSome o (λ last. gone.removal.hidden_by ≤ last)) (sym (ap left_by gone.removed) ∙ is) gone.by.left in
              record { why = inl (gone.went, subst (λ (n : ℕ). n ≤ last) (sym gone.number_is) within) }

    pub files_went : AllByRecursion (WentWhereLeft run placed) files
    files_went = each_member (WentWhereLeft run placed) files (λ file among. went_where_left file among (member_is (LeftWithoutRow notes.all) files file told.gone among))

    -- ---- all slots

    abbrev GoesWithoutRow : SlotAccount → Type 0
    GoesWithoutRow one = row_over (slot_of one) notes.all ≡ None → GoesRightly run run.trace.wires one

    all_go : AllByRecursion GoesWithoutRow all
    all_go = each_slot GoesWithoutRow
        (λ file among none. record { rule = file.opened.rule; rule_is = (followed file among).rule_is; removed = (is_gone file among none).went })
        (λ hidden there none.
        let goes = each_may_go run hiddens told.may_go hidden there in
        record { rule = goes.rule; rule_is = goes.rule_is; removed = hidden_went run hiddens told.may_go run.trace.wires hidden goes })

    module _ (begun : AreBegun all notes.all) (rows : List Row) (over : AreRowsOver run.opening notes.all rows) where
      abbrev HasRowOrLost : SlotAccount → Type 0
      HasRowOrLost one = HasItsRow rows one ⊎ IsRightlyLost run all run.trace.wires (key_of one)

      pub begun_keys_have_rows : AllByRecursion HasRowOrLost all
      begun_keys_have_rows = each_member HasRowOrLost all (λ one there. by_row one there (find (key_of one) rows) refl)
        where
          by_row : (one : SlotAccount) → Contains all one → (o : Option Row) → find (key_of one) rows ≡ o → HasRowOrLost one
          by_row one there None is =
              inr (lost_key run all run.trace.wires notes.all rows begun over (λ other among. member_is GoesWithoutRow all other all_go among) one there is)
          by_row one there (Some row) is = inl (record { row = row; of_rows = found_there (key_of one) rows row is; key_is = found_key (key_of one) rows row is })
