-- A hidden row that is not there any more is rightly lost, if its slot is the newest one of its key.
use Rattle.std.proofs.Common.{◌≡◌, inl, ◌≤◌, List, refl}
use Rattle.std.specs.List.{AllByRecursion, Contains}
use Rattle.kept_rows.specs.Account.{SlotAccount, key_of, slot_of}
use Rattle.kept_rows.specs.Lost.{IsRightlyLost, IsRightlyLostInImage}
use Rattle.kept_rows.specs.Run.{Run}
use Rattle.kept_rows.specs.Trace.{WireTold}
use Rattle.accounts.specs.Hidden.{Hidden, MayAllGo, hidden_account, hidden_key, hidden_slot, with_hidden}
use Rattle.accounts.proofs.HiddenAccounts.{removed_rightly}
use Rattle.accounts.proofs.HiddenFollowed.{each_may_go}
use Rattle.accounts.proofs.HiddenSlots.{hidden_there}

module _ (run : Run) (hiddens : List Hidden) (may : MayAllGo run hiddens) (account : List SlotAccount) (wires : List WireTold) (hidden : Hidden) (there : Contains hiddens hidden) where
  pub lost_in_image : IsRightlyLostInImage run (with_hidden account hiddens) wires (hidden_key hidden)
  lost_in_image =
      let goes = each_may_go run hiddens may hidden there in
      record {
        one = hidden_account hidden;
        of_account = hidden_there account hiddens hidden there;
        key_is = refl;
        rule = goes.rule;
        rule_is = goes.rule_is;
        why = inl (removed_rightly run hiddens may wires hidden goes);
      }

  pub lost : AllByRecursion (λ (other : SlotAccount). key_of other ≡ hidden_key hidden → slot_of other ≤ hidden_slot hidden) (with_hidden account hiddens) →
      IsRightlyLost run (with_hidden account hiddens) wires (hidden_key hidden)
  unfolding lost_in_image
  lost newest = record { lost = lost_in_image; newest = newest }
