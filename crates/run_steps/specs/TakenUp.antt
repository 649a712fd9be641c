-- What a run that gives a report has taken up (this project's profile): its first scan is whole, and each entry that a glob of an input
-- covers was passed over for its named reason, or a slot of the account has its key, and a tail that follows its file.
use Rattle.std.specs.Prelude.{◌≡◌, ◌⊎◌, ℕ, List, Contains, slice_get, Some}
use Rattle.event_tree.specs.declared.input_rule.InputRule.{InputRule}
use Rattle.kept_rows.specs.Account.{FollowedTail, SlotAccount, key_of}
use Rattle.kept_rows.specs.Drained.{IsPassedOver}
use Rattle.kept_rows.specs.Run.{Run, Scan}
use Rattle.kept_rows.specs.Scans.{IsCovered, IsWhole, ShowsEntry, ShowsFileTo}
use Rattle.outside.specs.declared.history.Shown.{Shown}

-- the scan shows its file to the input with the key of a slot, and a tail of the slot was opened to follow it
pub record IsTakenUp (run : Run) (account : List SlotAccount) (scan : Scan) (shown : Shown) (input : ℕ) : Type 0 where
  pub number : ℕ
  pub one : SlotAccount
  pub of_account : Contains account one
  pub shows : ShowsFileTo run scan input (key_of one) number shown
  pub tail : FollowedTail
  pub of_slot : Contains one.following.tails tail

pub record HasTakenUp (run : Run) (account : List SlotAccount) : Type 0 where
  pub scan : Scan
  pub first : slice_get run.scans 0 ≡ Some scan
  pub whole : IsWhole run scan
  pub each : (shown : Shown) (input : ℕ) (rule : InputRule) → ShowsEntry run.trace scan shown →
      slice_get run.settings.inputs input ≡ Some rule → IsCovered rule.paths shown.entry.path →
      IsPassedOver run rule scan shown input ⊎ IsTakenUp run account scan shown input
