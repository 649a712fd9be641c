-- The tails that followed the file of a slot, one by one, each with the history of its harvester (Filebeat reference, filestream
-- input; this project's profile): a tail begins where the parts before it ended, by the size with which the file was
-- listed last before it was opened.
use Rattle.std.specs.Prelude.{◌≡◌, ℕ, ◌<◌, ◌≤◌, true, List, [], ◌∷◌, map, flat_map, length}
use Rattle.std.specs.List.{AllByRecursion}
use Rattle.event_tree.specs.declared.group_rule.GroupRule.{GroupRule}
use Rattle.file_looks.specs.Segment.{Segment, segments_of}
use Rattle.harvester.specs.History.{History, IsTelling, Telling, timeout_in}
use Rattle.kept_rows.specs.Account.{FollowedTail}
use Rattle.kept_rows.specs.Epochs.{WasListedWith}
use Rattle.kept_rows.specs.Followed.{Start}
use Rattle.kept_rows.specs.Run.{Run}
use Rattle.multiline_core.specs.Rule.{timeout_of}
use Rattle.outside.specs.Files.{File}
use Rattle.told_events.specs.Licence.{LieApart}
use Rattle.told_events.specs.Rules.{Rules}
use Rattle.slot_parts.specs.Account.{epoch_after, goes_on, place_after}
use Rattle.slot_parts.specs.Parts.{Part}
use Rattle.slot_parts.specs.Tellings.{AreNumberedFrom, AreReadFirst, parts_of, tellings_in}

-- the looks of the tail up to the place where its file had another key
pub record ToldTail : Type 0 where
  pub tail : FollowedTail
  pub history : History

abbrev pub segments_by : ToldTail → List Segment
segments_by one = segments_of one.tail.place one.tail.looks

abbrev pub parts_by : GroupRule → ToldTail → List Part
parts_by rule one = parts_of one.tail.opening rule 0 (tellings_in one.history) (segments_by one)

abbrev pub parts_in : GroupRule → List ToldTail → List Part
parts_in rule tails = flat_map (parts_by rule) tails

abbrev pub started : ℕ → ℕ → Start
started epoch base = record { epoch = epoch; base = base }

-- its history begins at the place up to which the file was reported, by the size with which it was listed last
pub record GoesOnBehind (run : Run) (key : List ℕ) (epoch place : ℕ) (one : ToldTail) : Type 0 where
  pub size : ℕ
  pub listed : WasListedWith run key one.tail.opening (λ n. n ≡ size)
  pub first : Telling
  pub later : List Telling
  pub tellings_are : tellings_in one.history ≡ first ∷ later
  pub starts : started first.epoch one.tail.place ≡ goes_on epoch place size
  pub numbered : AreNumberedFrom first.epoch later
  pub few : length (tellings_in one.history) ≤ length (segments_by one)

-- each after those before it, if the file is reported up to this place of this epoch
abbrev pub GoOnBehind : Run → List ℕ → GroupRule → ℕ → ℕ → List ToldTail → Type 0
GoOnBehind run key rule epoch place [] = Unit {0}
GoOnBehind run key rule epoch place (one ∷ tails) =
    GoesOnBehind run key epoch place one
    × GoOnBehind run key rule (epoch_after epoch (parts_by rule one)) (place_after place (parts_by rule one)) tails

-- what it reported is of what its segments read, each flush where it may be
pub record IsToldTail (rules : Rules) (file : File) (MayEnd : ℕ → Type 0) (HasWaited : Type 0) (one : ToldTail) : Type 0 where
  pub read : AreReadFirst one.history file (tellings_in one.history) (segments_by one)
  pub tells : AllByRecursion (IsTelling rules) (tellings_in one.history)
  pub same_lines : one.history.rule.lines ≡ rules.lines
  pub may_end : one.history.may_end ≡ true → MayEnd one.tail.opening
  pub has_waited : 0 < timeout_of rules.events → LieApart one.history.moments (timeout_in one.history) → HasWaited

abbrev pub tails_of : List ToldTail → List FollowedTail
tails_of tails = map (λ one. one.tail) tails
