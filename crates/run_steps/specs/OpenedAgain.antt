-- A file that is opened again (Filebeat reference, filestream input; this project's profile): its last tail was closed where it read on, at its file's end,
-- or where the file had another key. What that told moves to the openings before, and an opening of the same file takes its place, of which nothing
-- was told yet: from the end of the last event that was told, in the same epoch, where the file was listed with at least that size, else
-- from its first byte in the next epoch, which the keeper is told.
use Rattle.std.specs.Prelude.{◌≡◌, ◌≢◌, ℕ, List, [], ◌∷◌, ◌++◌, Contains}
use Rattle.std.specs.List.{AllByRecursion, flat_map}
use Rattle.accounts.specs.FollowedFile.{MayReopenAt, start_in}
use Rattle.accounts.specs.Opened.{Opened}
use Rattle.accounts.specs.Turned.{Turned}
use Rattle.event_tree.specs.declared.processor_rule.ProcessorRule.{ProcessorRule}
use Rattle.harvester.specs.History.{opened, told_to}
use Rattle.kept_rows.specs.Followed.{Start}
use Rattle.pass_sums.specs.Weight.{AsOften}
use Rattle.slot_parts.specs.Account.{goes_on}
use Rattle.run_steps.specs.Earlier.{AreOfOneFile}
use Rattle.run_steps.specs.SoFar.{FilesSoFar, Left, SoFar, with_opening}

-- the last opening of its slot, whose tail was closed with what it told; the file is not forgotten
pub record IsClosedLast (so_far : FilesSoFar) (last : Opened) : Type 0 where
  pub among : Contains so_far.opened last
  pub before : List Left
  pub left : Left
  pub behind : List Left
  pub left_are : so_far.left ≡ before ++ left ∷ behind
  pub slot_is : left.turned.slot ≡ last.begin.slot
  pub may : MayReopenAt left.turned.history.stage
  pub not_forgotten : AllByRecursion (λ one. one.opened.begin.slot ≢ last.begin.slot) so_far.forgotten

-- where a file goes on of which so much was told, by the size with which it is listed
abbrev pub goes_on_behind : Left → ℕ → Start
goes_on_behind left size = goes_on left.turned.history.present.epoch (told_to left.turned.history.present) size

-- nothing was told of it yet
abbrev pub just_opened : List ProcessorRule → Opened → ℕ → Turned
just_opened processors one now = record { slot = one.begin.slot; history = opened one.rule processors one.begin one.asked now }

-- lanes turn this file, too
abbrev pub HasOneMore : Turned → List (List Turned) → List (List Turned) → Type 0
HasOneMore turned old new = AsOften (flat_map (λ lane. lane) new) (turned ∷ flat_map (λ lane. lane) old)

-- this opening took the place of the last one, at this moment, and goes on by the size with which it was listed
pub record IsOpenedAgain (processors : List ProcessorRule) (now : ℕ) (last next : Opened) (before after : SoFar) (closed : Left) : Type 0 where
  pub of_one : AreOfOneFile last next
  pub starts : start_in next ≡ goes_on_behind closed next.begin.size
  pub front : List Left
  pub behind : List Left
  pub left_were : before.left ≡ front ++ closed ∷ behind
  pub left_are : after.left ≡ front ++ behind
  pub earlier : after.earlier ≡ before.earlier ++ record { opened = last; left = closed; next = next } ∷ []
  pub opened : after.opened ≡ with_opening next before.opened
  pub lanes : HasOneMore (just_opened processors next now) before.lanes after.lanes
  -- and all else is as it was
  pub others : after ≡ record before { opened = after.opened; lanes = after.lanes; left = after.left; earlier = after.earlier }
