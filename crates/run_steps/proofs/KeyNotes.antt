-- What the notes of a run say of each key: those of listed files are never forgotten, a row that is removed is gone where its Forget was noted,
-- and of a key without a slot nothing is noted.
use Rattle.std.proofs.Common.{◌≡◌, ◌≢◌, ◌⊎◌, inl, inr, ℕ, true, false, List, [], ◌∷◌, Contains, if◌then◌else◌, Option, None, Some, refl, sym, ap, subst, ◌∙◌}
use Rattle.std.specs.List.{AllByRecursion}
use Rattle.std.specs.Ordering.{is_eq}
use Rattle.std.specs.declared.cmp.Ordering.{Ordering}
use Rattle.std.specs.declared.cmp.Ordering.TheVariants.{Equal, Greater, Less}
use Rattle.accounts.proofs.Backing.{mapped_there}
use Rattle.accounts.proofs.BegunRows.{are_notes}
use Rattle.accounts.proofs.LastNotes.{collectable_gives_none, none_forgotten}
use Rattle.accounts.proofs.Ordered.{is_collectable, slots_apart}
use Rattle.accounts.proofs.Orderly.{member_is}
use Rattle.accounts.proofs.OwnNotes.{slot_begun}
use Rattle.accounts.proofs.HiddenSlots.{account_there, hidden_there}
use Rattle.accounts.specs.Filed.{Filed, account_of, accounts_of, slot_in, turned_of}
use Rattle.accounts.specs.FollowedFile.{key_in}
use Rattle.accounts.specs.Hidden.{Hidden, hidden_account, hidden_begin, hidden_forget, hidden_key, hidden_slot, with_hidden}
use Rattle.accounts.specs.RunTold.{RunNotes, RunTold}
use Rattle.accounts.specs.Taken.{Taken, acknowledged_in}
use Rattle.accounts.specs.ToldNotes.{IsForgetOf, IsKnownNote, IsNamingOf}
use Rattle.kept_rows.proofs.Begun.{ForgetNone}
use Rattle.kept_rows.specs.Account.{Place, SlotAccount, key_of}
use Rattle.kept_rows.specs.Kept.{IsUnbegun}
use Rattle.kept_rows.specs.Run.{Run}
use Rattle.ship_core.proofs.Members.{first_there, later_there, none_there, there_cases, there_given}
use Rattle.ship_core.specs.RowOver.{notes_of, slot_of}
use Rattle.ship_core.specs.RowsOver.{slot_for, slots_for}
use Rattle.wire_base.proofs.ByteOrder.{compare_same, same_key}
use Rattle.wire_base.specs.KeyOrder.{compare}
use Rattle.wire_base.specs.declared.note.Note.{Note}
use Rattle.wire_base.specs.declared.parcel.Parcel.{Parcel}
use Rattle.run_steps.proofs.RowsStay.{KeepsItsSlots}

-- a key is that of a hidden row, or of none
pub record IsHiddenKey (hiddens : List Hidden) (key : List ℕ) : Type 0 where
  pub hidden : Hidden
  pub there : Contains hiddens hidden
  pub key_is : hidden_key hidden ≡ key

module _ (run : Run) (files : List Filed) (hiddens : List Hidden) (workers : List Taken) (notes : RunNotes) (told : RunTold run files hiddens workers notes) where
  abbrev Known : Note → Type 0
  Known = IsKnownNote run files hiddens (acknowledged_in workers)

  each_known : AllByRecursion Known notes.all
  each_known = (are_notes run files hiddens workers notes told).each

  -- ---- who begins a slot for a key

  pub record IsOfFile (key : List ℕ) (slot : ℕ) : Type 0 where
    pub file : Filed
    pub among : Contains files file
    pub slot_is : slot_in file ≡ slot
    pub key_is : key_in file ≡ key

  pub record IsOfRow (key : List ℕ) (slot : ℕ) : Type 0 where
    pub hidden : Hidden
    pub there : Contains hiddens hidden
    pub slot_is : hidden_slot hidden ≡ slot
    pub key_is : hidden_key hidden ≡ key

  nothing_begins : (key : List ℕ) (slot : ℕ) (note other : Note) → note ≡ other → slot_for key other ≡ None → slot_for key note ≡ Some slot → ⊥
  nothing_begins key slot note other is none begun = let q : None ≡ Some slot = sym (ap (slot_for key) is ∙ none) ∙ begun in cc

  -- the key with which it begins
  same_begun : (key other : List ℕ) (number slot : ℕ) → (if is_eq (compare key other) then Some number else None) ≡ Some slot → other ≡ key
  same_begun key other number slot is = by_order (compare key other) refl is
    where
      by_order : (o : Ordering) → compare key other ≡ o → (if is_eq o then Some number else None) ≡ Some slot → other ≡ key
      by_order Equal same begun = sym (same_key key other same)
      by_order Less same none = absurd (let q : None ≡ Some slot = none in cc)
      by_order Greater same none = absurd (let q : None ≡ Some slot = none in cc)

  pub whose : (key : List ℕ) (slot : ℕ) (note : Note) → Known note → slot_for key note ≡ Some slot → IsOfFile key slot ⊎ IsOfRow key slot
  whose key slot note (inl (inl of)) begun = inl (record {
    file = of.file;
    among = of.of_files;
    slot_is = ap slot_of (sym of.begins.is) ∙ slot_begun key slot note begun;
    key_is = same_begun key (key_in of.file) (slot_in of.file) slot (ap (slot_for key) (sym of.begins.is) ∙ begun);
  })
  whose key slot note (inl (inr (inl of))) begun = absurd (nothing_begins key slot note _ of.is refl begun)
  whose key slot note (inl (inr (inr (inr of)))) begun = by_kind of.is
    where
      by_kind : IsNamingOf run of.file note ⊎ IsForgetOf of.file note → IsOfFile key slot ⊎ IsOfRow key slot
      by_kind (inl named) = absurd (nothing_begins key slot note _ named.is refl begun)
      by_kind (inr forget) = absurd (nothing_begins key slot note _ forget.is refl begun)
  whose key slot note (inl (inr (inr (inl of)))) begun = by_kind of.is
    where
      by_kind : (note ≡ hidden_begin of.hidden) ⊎ (note ≡ hidden_forget of.hidden) → IsOfFile key slot ⊎ IsOfRow key slot
      by_kind (inl is) = inr (record {
        hidden = of.hidden;
        there = of.of_hiddens;
        slot_is = ap slot_of (sym is) ∙ slot_begun key slot note begun;
        key_is = same_begun key (hidden_key of.hidden) (hidden_slot of.hidden) slot (ap (slot_for key) (sym is) ∙ begun);
      })
      by_kind (inr is) = absurd (nothing_begins key slot note _ is refl begun)
  whose key slot note (inr ground) begun =
      absurd (let q : None ≡ Some slot = sym (collectable_gives_none key note (is_collectable (turned_of files) (acknowledged_in workers) note ground)) ∙ begun in cc)

  pub whose_slot : (key : List ℕ) (slot : ℕ) → Contains (slots_for key notes.all) slot → IsOfFile key slot ⊎ IsOfRow key slot
  whose_slot key slot there =
      let of = there_given (slot_for key) notes.all slot there in whose key slot of.0 (member_is Known notes.all of.0 each_known of.1) of.2

  -- ---- a key of no hidden row keeps its slots

  hidden_or_not : (key : List ℕ) (some : List Hidden) → IsHiddenKey some key ⊎ ((hidden : Hidden) → Contains some hidden → hidden_key hidden ≢ key)
  hidden_or_not key [] = inr (λ hidden there same. none_there hidden there)
  hidden_or_not key (first ∷ some) = by_order (compare key (hidden_key first)) refl (hidden_or_not key some)
    where
      apart : is_eq (compare key (hidden_key first)) ≡ false → hidden_key first ≢ key
      apart unequal same = let q : true ≡ false = sym (ap is_eq (compare_same key (hidden_key first) (sym same))) ∙ unequal in cc

      later : ((hidden : Hidden) → Contains some hidden → hidden_key hidden ≢ key) → hidden_key first ≢ key → (hidden : Hidden) → Contains (first ∷ some) hidden → hidden_key hidden ≢ key
      later none here hidden there = by_place (there_cases first hidden some there)
        where
          by_place : (first ≡ hidden) ⊎ Contains some hidden → hidden_key hidden ≢ key
          by_place (inl is) same = here (ap hidden_key is ∙ same)
          by_place (inr behind) same = none hidden behind same

      by_rest : hidden_key first ≢ key → IsHiddenKey some key ⊎ ((hidden : Hidden) → Contains some hidden → hidden_key hidden ≢ key) →
          IsHiddenKey (first ∷ some) key ⊎ ((hidden : Hidden) → Contains (first ∷ some) hidden → hidden_key hidden ≢ key)
      by_rest here (inl of) = inl (record { hidden = of.hidden; there = later_there first of.hidden some of.there; key_is = of.key_is })
      by_rest here (inr none) = inr (later none here)

      by_order : (o : Ordering) → compare key (hidden_key first) ≡ o → IsHiddenKey some key ⊎ ((hidden : Hidden) → Contains some hidden → hidden_key hidden ≢ key) →
          IsHiddenKey (first ∷ some) key ⊎ ((hidden : Hidden) → Contains (first ∷ some) hidden → hidden_key hidden ≢ key)
      by_order Equal same rest = inl (record { hidden = first; there = first_there first some; key_is = sym (same_key key (hidden_key first) same) })
      by_order Less same rest = by_rest (apart (ap is_eq same)) rest
      by_order Greater same rest = by_rest (apart (ap is_eq same)) rest

  pub keeps_or_hidden : ((file : Filed) → Contains files file → file.removed ≡ None) → (key : List ℕ) → KeepsItsSlots notes.all key ⊎ IsHiddenKey hiddens key
  keeps_or_hidden stay key = by_case (hidden_or_not key hiddens)
    where
      keeps : ((hidden : Hidden) → Contains hiddens hidden → hidden_key hidden ≢ key) → KeepsItsSlots notes.all key
      keeps none slot there = by_whose (whose_slot key slot there)
        where
          by_whose : IsOfFile key slot ⊎ IsOfRow key slot → ForgetNone (notes_of slot notes.all)
          by_whose (inl of) = subst (λ (n : ℕ). ForgetNone (notes_of n notes.all)) of.slot_is
              (none_forgotten run files hiddens (acknowledged_in workers) notes.all (slots_apart 0 files told.followed.slots) told.beside (are_notes run files hiddens workers notes told) of.file of.among (stay of.file of.among))
          by_whose (inr of) = absurd (none of.hidden of.there of.key_is)

      by_case : IsHiddenKey hiddens key ⊎ ((hidden : Hidden) → Contains hiddens hidden → hidden_key hidden ≢ key) → KeepsItsSlots notes.all key ⊎ IsHiddenKey hiddens key
      by_case (inl is) = inr is
      by_case (inr none) = inl (keeps none)

  -- ---- a key of no slot is not begun

  module _ (placed : Parcel → Option Place) (key : List ℕ) (unbegun : IsUnbegun (with_hidden (accounts_of placed files) hiddens) key) where
    not_begun : (slot : ℕ) → IsOfFile key slot ⊎ IsOfRow key slot → ⊥
    not_begun slot (inl of) =
        member_is (λ (one : SlotAccount). key_of one ≢ key) (with_hidden (accounts_of placed files) hiddens) (account_of placed of.file) unbegun
        (account_there (accounts_of placed files) hiddens (account_of placed of.file) (mapped_there (account_of placed) files of.file of.among)) of.key_is
    not_begun slot (inr of) =
        member_is (λ (one : SlotAccount). key_of one ≢ key) (with_hidden (accounts_of placed files) hiddens) (hidden_account of.hidden) unbegun
        (hidden_there (accounts_of placed files) hiddens of.hidden of.there) of.key_is

    pub begins_none : slots_for key notes.all ≡ []
    begins_none = by_slots (slots_for key notes.all) refl
      where
        by_slots : (slots : List ℕ) → slots_for key notes.all ≡ slots → slots_for key notes.all ≡ []
        by_slots [] is = is
        by_slots (slot ∷ slots) is = absurd (not_begun slot (whose_slot key slot (subst (λ (l : List ℕ). Contains l slot) (sym is) (first_there slot slots))))
