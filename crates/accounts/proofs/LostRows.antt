-- A key of an account that has no row among rows over backed notes lost it rightly: its newest slot has none, and a slot without a row went rightly.
use Rattle.std.proofs.Common.{◌≡◌, ◌⊎◌, inl, inr, ℕ, ◌<◌, ◌≤◌, List, [], ◌∷◌, Contains, None, Some, refl, sym, subst, ◌∙◌, arith}
use Rattle.std.specs.Prelude.{slice_get}
use Rattle.std.specs.List.{AllByRecursion}
use Rattle.std.proofs.lemmas.Bool.{cases_lt}
use Rattle.event_tree.specs.declared.input_rule.InputRule.{InputRule}
use Rattle.kept_rows.proofs.Forgotten.{none_has_row}
use Rattle.kept_rows.specs.Account.{SlotAccount, key_of, slot_of}
use Rattle.kept_rows.specs.Backed.{AreBegun}
use Rattle.kept_rows.specs.Lost.{IsRightlyLost, WasRemovedRightly}
use Rattle.kept_rows.specs.Run.{Run}
use Rattle.kept_rows.specs.Trace.{WireTold}
use Rattle.ship_core.proofs.Members.{first_there, later_there}
use Rattle.ship_core.specs.RowOver.{row_over}
use Rattle.ship_core.specs.Rows.{find}
use Rattle.ship_core.specs.RowsOver.{AreRowsOver, slots_for}
use Rattle.wire_base.specs.declared.note.Note.{Note}
use Rattle.wire_base.specs.declared.row.Row.{Row}
use Rattle.accounts.proofs.LastNotes.{same_key_or_not}
use Rattle.accounts.proofs.Lists.{each_then}
use Rattle.accounts.proofs.Orderly.{member_is}

-- ---- the newest slot of a key

abbrev IsNoNewer : List ℕ → SlotAccount → SlotAccount → Type 0
IsNoNewer key one other = key_of other ≡ key → slot_of other ≤ slot_of one

pub record IsNewest (account : List SlotAccount) (key : List ℕ) : Type 0 where
  pub one : SlotAccount
  pub of_account : Contains account one
  pub key_is : key_of one ≡ key
  pub newest : AllByRecursion (λ (other : SlotAccount). key_of other ≡ key → slot_of other ≤ slot_of one) account

newest_or_none : (key : List ℕ) (account : List SlotAccount) → IsNewest account key ⊎ AllByRecursion (λ (other : SlotAccount). key_of other ≡ key → ⊥) account
newest_or_none key [] = inr tt
newest_or_none key (first ∷ account) = by_case (same_key_or_not (key_of first) key) (newest_or_none key account)
  where
    by_order : key_of first ≡ key → (later : IsNewest account key) → (slot_of later.one < slot_of first) ⊎ (slot_of first ≤ slot_of later.one) → IsNewest (first ∷ account) key
    by_order same later (inl less) = record {
      one = first;
      of_account = first_there first account;
      key_is = same;
      newest = (
        λ its. omega arith,
        each_then (IsNoNewer key later.one) (IsNoNewer key first) account (λ other within its. let most = within its in omega (arith, most, less)) later.newest,
      );
    }
    by_order same later (inr within) =
        record { one = later.one; of_account = later_there first later.one account later.of_account; key_is = later.key_is; newest = (λ its. within, later.newest) }

    by_case : (key_of first ≡ key) ⊎ (key_of first ≡ key → ⊥) → IsNewest account key ⊎ AllByRecursion (λ (other : SlotAccount). key_of other ≡ key → ⊥) account →
        IsNewest (first ∷ account) key ⊎ AllByRecursion (λ (other : SlotAccount). key_of other ≡ key → ⊥) (first ∷ account)
    by_case (inl same) (inl later) = inl (by_order same later (cases_lt (slot_of later.one) (slot_of first)))
    by_case (inl same) (inr none) = inl (record {
      one = first;
      of_account = first_there first account;
      key_is = same;
      newest = (
        λ its. omega arith,
        each_then (λ (other : SlotAccount). key_of other ≡ key → ⊥) (IsNoNewer key first) account (λ other differs its. absurd (differs its)) none,
      );
    })
    by_case (inr differs) (inl later) = inl (record {
      one = later.one;
      of_account = later_there first later.one account later.of_account;
      key_is = later.key_is;
      newest = (λ its. absurd (differs its), later.newest);
    })
    by_case (inr differs) (inr none) = inr (differs, none)

newest_of : (key : List ℕ) (account : List SlotAccount) (some : SlotAccount) → Contains account some → key_of some ≡ key → IsNewest account key
newest_of key account some there same = by_case (newest_or_none key account)
  where
    by_case : IsNewest account key ⊎ AllByRecursion (λ (other : SlotAccount). key_of other ≡ key → ⊥) account → IsNewest account key
    by_case (inl newest) = newest
    by_case (inr none) = absurd (member_is (λ (other : SlotAccount). key_of other ≡ key → ⊥) account some none there same)

-- ---- a key without a row

-- by the rule of its input the row of the slot went
pub record GoesRightly (run : Run) (wires : List WireTold) (one : SlotAccount) : Type 0 where
  pub rule : InputRule
  pub rule_is : slice_get run.settings.inputs one.following.input ≡ Some rule
  pub removed : WasRemovedRightly run wires rule one

pub lost_key : (run : Run) (account : List SlotAccount) (wires : List WireTold) (notes : List Note) (rows : List Row) → AreBegun account notes → AreRowsOver run.opening notes rows →
    ((one : SlotAccount) → Contains account one → row_over (slot_of one) notes ≡ None → GoesRightly run wires one) →
    (one : SlotAccount) → Contains account one → find (key_of one) rows ≡ None → IsRightlyLost run account wires (key_of one)
lost_key run account wires notes rows begun over goes one there none =
    let newest = newest_of (key_of one) account one there refl in
    let given : Contains (slots_for (key_of one) notes) (slot_of newest.one) =
    subst (λ (key : List ℕ). Contains (slots_for key notes) (slot_of newest.one)) newest.key_is
    (member_is (λ (other : SlotAccount). Contains (slots_for (key_of other) notes) (slot_of other)) account newest.one begun newest.of_account) in
    let went = goes newest.one newest.of_account (none_has_row run.opening notes (key_of one) (sym (over.each (key_of one)) ∙ none) (slot_of newest.one) given) in
    record {
      lost = record { one = newest.one; of_account = newest.of_account; key_is = newest.key_is; rule = went.rule; rule_is = went.rule_is; why = inl went.removed };
      newest = newest.newest;
    }
