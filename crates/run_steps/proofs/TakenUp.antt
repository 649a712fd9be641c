-- A run that served each entry of its scan has taken up each that it did not pass over; so the key of each has a row, or lost it rightly.
use Rattle.std.proofs.Common.{◌≡◌, ◌⊎◌, inl, inr, ℕ, List, map, Option, Some}
use Rattle.std.specs.Prelude.{slice_get}
use Rattle.std.specs.List.{AllByRecursion}
use Rattle.accounts.proofs.Backing.{mapped_there}
use Rattle.accounts.proofs.HiddenSlots.{account_there}
use Rattle.accounts.proofs.Orderly.{member_is}
use Rattle.accounts.specs.Accounted.{followed_tail}
use Rattle.accounts.specs.AccountedFor.{HasItsRow}
use Rattle.accounts.specs.Filed.{Filed, account_of, accounts_of, tail_by}
use Rattle.accounts.specs.Hidden.{Hidden, with_hidden}
use Rattle.accounts.specs.RunDone.{EachEntryIsServed, IsAmongFiles}
use Rattle.event_tree.specs.declared.input_rule.InputRule.{InputRule}
use Rattle.kept_rows.specs.Account.{Place, SlotAccount, key_of}
use Rattle.kept_rows.specs.Drained.{IsPassedOver}
use Rattle.kept_rows.specs.Run.{Run, Scan}
use Rattle.kept_rows.specs.Scans.{IsWhole}
use Rattle.outside.specs.declared.history.Shown.{Shown}
use Rattle.ship_core.proofs.Members.{first_there}
use Rattle.slot_parts.specs.Tails.{tails_of}
use Rattle.wire_base.specs.declared.parcel.Parcel.{Parcel}
use Rattle.wire_base.specs.declared.row.Row.{Row}
use Rattle.run_steps.specs.AccountedFor.{HasRowOf, LostKey}
use Rattle.run_steps.specs.TakenUp.{HasTakenUp, IsTakenUp}

module _ (run : Run) (scan : Scan) (files : List Filed) (hiddens : List Hidden) (placed : Parcel → Option Place) where
  abbrev account : List SlotAccount
  account = with_hidden (accounts_of placed files) hiddens

  taken_up : (shown : Shown) (input : ℕ) → IsAmongFiles run scan files shown input → IsTakenUp run account scan shown input
  taken_up shown input among = record {
    number = among.number;
    one = account_of placed among.file;
    of_account = account_there (accounts_of placed files) hiddens (account_of placed among.file)
        (mapped_there (account_of placed) files among.file among.of_files);
    shows = among.shows;
    tail = followed_tail among.file.opened among.file.looks among.file.turned.history;
    of_slot = first_there (followed_tail among.file.opened among.file.looks among.file.turned.history) (tails_of (map tail_by among.file.later));
  }

  pub has_taken_up : slice_get run.scans 0 ≡ Some scan → IsWhole run scan → EachEntryIsServed run scan files → HasTakenUp run account
  has_taken_up first whole served = record {
    scan = scan;
    first = first;
    whole = whole;
    each = λ shown input rule entry rule_is covered. by_case shown input rule (served shown input rule entry rule_is covered);
  }
    where
      by_case : (shown : Shown) (input : ℕ) (rule : InputRule) → IsAmongFiles run scan files shown input ⊎ IsPassedOver run rule scan shown input →
          IsPassedOver run rule scan shown input ⊎ IsTakenUp run account scan shown input
      by_case shown input rule (inl among) = inr (taken_up shown input among)
      by_case shown input rule (inr passed) = inl passed

-- what was taken up has its row at the end, where each slot's key has one or lost it rightly
pub has_row : (run : Run) (account : List SlotAccount) (rows : List Row) (scan : Scan) (shown : Shown) (input : ℕ) →
    AllByRecursion (λ one. HasItsRow rows one ⊎ LostKey run account (key_of one)) account → (taken : IsTakenUp run account scan shown input) →
    HasRowOf rows (key_of taken.one) ⊎ LostKey run account (key_of taken.one)
has_row run account rows scan shown input begun taken =
    by_case (member_is (λ (one : SlotAccount). HasItsRow rows one ⊎ LostKey run account (key_of one)) account taken.one begun taken.of_account)
  where
    by_case : HasItsRow rows taken.one ⊎ LostKey run account (key_of taken.one) → HasRowOf rows (key_of taken.one) ⊎ LostKey run account (key_of taken.one)
    by_case (inl has) = inl (record { row = has.row; of_rows = has.of_rows; key_is = has.key_is })
    by_case (inr lost) = inr lost
