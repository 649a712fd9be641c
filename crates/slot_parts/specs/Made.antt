-- A slot whose file tails followed one by one, and what holds of the account that they make (this project's profile).
use Rattle.std.specs.Prelude.{◌≡◌, ℕ, List, Option, Some, slice_get}
use Rattle.std.specs.List.{AllByRecursion}
use Rattle.kept_rows.specs.Account.{Following, Place, SlotAccount}
use Rattle.kept_rows.specs.Epochs.{AreEpochs}
use Rattle.kept_rows.specs.Premises.{SeesTruncationsOf}
use Rattle.kept_rows.specs.Run.{Run}
use Rattle.kept_rows.specs.Telling.{IsEpochTold, MayEnd}
use Rattle.multiline_core.specs.Rule.{IsGroupRule, timeout_of}
use Rattle.outside.specs.Files.{File}
use Rattle.told_events.specs.Licence.{LieApart}
use Rattle.told_events.specs.Rules.{Rules}
use Rattle.told_events.specs.Told.{ToldEvent}
use Rattle.slot_parts.specs.Account.{IsLookedTail, IsShownPart, slot_account}
use Rattle.slot_parts.specs.Tails.{GoOnBehind, IsToldTail, ToldTail, parts_in, tails_of}

pub record TailedSlot : Type 0 where
  pub run : Run
  -- of its input
  pub rules : Rules
  pub following : Following
  -- the number of its file, and the file
  pub number : ℕ
  pub file : File
  -- the greatest moment of change that was noted
  pub changed : ℕ
  pub tails : List ToldTail
  -- by epoch, where each event was acknowledged
  pub placed : ℕ → ToldEvent → Option Place

abbrev pub account_by_tails : TailedSlot → SlotAccount
account_by_tails slot = slot_account slot.placed slot.following slot.number slot.changed (parts_in slot.rules.events slot.tails)

-- each tail goes on after those before it, reported what its looks read, and by a path that the run shows
pub record IsTailedSo (slot : TailedSlot) : Type 0 where
  pub in_range : IsGroupRule slot.rules.events
  pub file_is : slice_get slot.run.trace.files slot.number ≡ Some slot.file
  pub tails_are : slot.following.tails ≡ tails_of slot.tails
  pub go_on : GoOnBehind slot.run slot.following.key slot.rules.events slot.following.epoch slot.following.base slot.tails
  pub told : AllByRecursion (IsToldTail slot.rules slot.file (MayEnd slot.run (account_by_tails slot)) (LieApart slot.run.trace.moments (timeout_of slot.rules.events))) slot.tails
  pub looked : AllByRecursion (IsLookedTail slot.file) slot.following.tails
  pub shown : AllByRecursion (IsShownPart slot.run (account_by_tails slot)) (parts_in slot.rules.events slot.tails)

-- its epochs are those of the slot, and if truncations are seen, each of them is reported of one life
pub record IsToldByTails (slot : TailedSlot) : Type 0 where
  pub epochs : AreEpochs slot.run (account_by_tails slot)
  pub told : SeesTruncationsOf slot.following → AllByRecursion (IsEpochTold slot.run slot.rules (account_by_tails slot)) (account_by_tails slot).epochs
