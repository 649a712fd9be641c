-- The account that the tails of a slot make.
use Rattle.std.proofs.Common.{◌≡◌, ℕ, List, Option, Some, sym, ap, ◌∙◌}
use Rattle.std.specs.Prelude.{slice_get}
use Rattle.std.specs.List.{AllByRecursion, flat_map}
use Rattle.event_tree.specs.declared.group_rule.GroupRule.{GroupRule}
use Rattle.kept_rows.specs.Account.{FollowedTail, Following, Place, readings_of}
use Rattle.kept_rows.specs.Epochs.{AreEpochs}
use Rattle.kept_rows.specs.Premises.{SeesTruncationsOf}
use Rattle.kept_rows.specs.Run.{Run}
use Rattle.kept_rows.specs.Telling.{IsEpochTold, MayEnd}
use Rattle.multiline_core.specs.Rule.{IsGroupRule, timeout_of}
use Rattle.outside.specs.Files.{File}
use Rattle.told_events.specs.Licence.{LieApart}
use Rattle.told_events.specs.Rules.{Rules}
use Rattle.told_events.specs.Told.{ToldEvent}
use Rattle.slot_parts.specs.Account.{ArePartsOf, IsLookedTail, IsShownPart, slot_account}
use Rattle.slot_parts.specs.Tails.{GoOnBehind, IsToldTail, ToldTail, parts_in, tails_of}
use Rattle.slot_parts.proofs.Accounted.{epochs_are_told}
use Rattle.slot_parts.proofs.Risen.{are_chained, are_epochs}
use Rattle.slot_parts.proofs.Slots.{tails_are_read, tails_are_told, tails_follow}

are_parts : (run : Run) (rule : GroupRule) (following : Following) (tails : List ToldTail) → following.tails ≡ tails_of tails →
    GoOnBehind run following.key rule following.epoch following.base tails → ArePartsOf following (parts_in rule tails)
are_parts run rule following tails tails_is on =
    tails_are_read run following.key rule following.epoch following.base tails on ∙ ap (λ (l : List FollowedTail). flat_map readings_of l) (sym tails_is)

pub account_has_epochs : (run : Run) (rule : GroupRule) (placed : ℕ → ToldEvent → Option Place) (following : Following) (number changed : ℕ) (tails : List ToldTail) →
    following.tails ≡ tails_of tails → GoOnBehind run following.key rule following.epoch following.base tails →
    AreEpochs run (slot_account placed following number changed (parts_in rule tails))
account_has_epochs run rule placed following number changed tails tails_is on =
    are_epochs run placed following number changed (parts_in rule tails)
    (tails_follow run following.key rule following.epoch following.base tails on) (are_parts run rule following tails tails_is on)

pub account_is_told : (run : Run) (rules : Rules) (placed : ℕ → ToldEvent → Option Place) (following : Following) (number changed : ℕ) (tails : List ToldTail) (file : File) →
    let parts = parts_in rules.events tails in
    let account = slot_account placed following number changed parts in
    let waited = LieApart run.trace.moments (timeout_of rules.events) in
    IsGroupRule rules.events → slice_get run.trace.files number ≡ Some file → following.tails ≡ tails_of tails →
    GoOnBehind run following.key rules.events following.epoch following.base tails → AllByRecursion (IsToldTail rules file (MayEnd run account) waited) tails →
    AllByRecursion (IsLookedTail file) following.tails → SeesTruncationsOf following → AllByRecursion (IsShownPart run account) parts →
    AllByRecursion (IsEpochTold run rules account) account.epochs
account_is_told run rules placed following number changed tails file in_range file_is tails_is on told looked sees shown =
    let parts = parts_in rules.events tails in
    let account = slot_account placed following number changed parts in
    let follow = tails_follow run following.key rules.events following.epoch following.base tails on in
    epochs_are_told run rules account file placed file_is in_range following sees.last_read parts
    (are_chained run following.key following.epoch following.base parts follow) (are_parts run rules.events following tails tails_is on) looked sees.seen
    (tails_are_told rules in_range file (MayEnd run account) (LieApart run.trace.moments (timeout_of rules.events)) tails told) shown
