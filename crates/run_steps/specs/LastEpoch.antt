-- A file whose last epoch is over (Filebeat reference, filestream input; this project's profile): its length was below what was read, its
-- key was the same, and no further epoch is left. What the folder reported shows it: the epoch with which it began and its length's falls
-- since then, at each of which it still had its key, make one above the last epoch. The account of a run that gives a report has no such file.
use Rattle.std.specs.Prelude.{◌≡◌, ◌⊎◌, ℕ, ◌+◌, ◌-◌, ◌≤◌, List, [], length, slice_get, Some}
use Rattle.std.specs.List.{AllByRecursion}
use Rattle.accounts.specs.FollowedFile.{MayReopenAt}
use Rattle.accounts.specs.Turned.{Turned}
use Rattle.event_tree.specs.declared.input_rule.InputRule.{InputRule}
use Rattle.file_identity.specs.AskedAgain.{KeepsKey}
use Rattle.file_looks.specs.Segment.{segments_of}
use Rattle.harvester.specs.HasTold.{HasTold}
use Rattle.harvester.specs.History.{History, Over, Telling}
use Rattle.harvester.specs.Standing.{stage_of}
use Rattle.harvester.specs.declared.harvester.Harvester.{Harvester}
use Rattle.kept_rows.specs.Account.{FollowedTail, SlotAccount}
use Rattle.outside.specs.Files.{File}
use Rattle.outside.specs.Folders.{FolderHistory, Opened}
use Rattle.outside.specs.declared.history.Look.{Look}
use Rattle.outside.specs.declared.history.Sight.{Sight}
use Rattle.prospect.specs.declared.listed.Listed.{Listed}
use Rattle.restart_join.specs.declared.start.TheConstants.{MAX_EPOCH}
use Rattle.rounds.specs.Pairs.{SomeOf}
use Rattle.rounds.specs.Words.{TailWords}
use Rattle.wire_base.specs.declared.numbers.Slot.{Slot}
use Rattle.wire_base.specs.declared.row.Row.{Row}
use Rattle.run_steps.specs.BeginFor.{start_among}
use Rattle.run_steps.specs.RunState.{Finished, Following, Halted, HaltedFollowing, Leaving, OutOfEpochs, Phase, Reading}
use Rattle.told_scans.specs.OnlyAsked.{WasClosedWith}

-- ---- by what its turns reported

-- it is of the slot, and a turn found that its last epoch is over
pub record IsLastOver (slot : Slot) (turned : Turned) : Type 0 where
  pub of_slot : turned.slot ≡ slot
  pub over : turned.history.stage ≡ Over
  pub last : turned.history.present.epoch ≡ MAX_EPOCH

-- in a run that ended because epochs ran out, one of its files is the one that has none left
abbrev pub HaveOneOver : Phase → List Turned → Type 0
HaveOneOver Reading files = Unit {0}
HaveOneOver Finished files = Unit {0}
HaveOneOver Leaving files = Unit {0}
HaveOneOver Halted files = Unit {0}
HaveOneOver Following files = Unit {0}
HaveOneOver HaltedFollowing files = Unit {0}
HaveOneOver (OutOfEpochs slot) files = SomeOf (IsLastOver slot) files

-- each fall of its length was answered, by the next epoch or by another key
abbrev pub HasAnswered : {T : Type 0} → Harvester T → Type 0
HasAnswered harvester = MayReopenAt (stage_of harvester.reader.stage)

-- so it is if its tail counted no fault: a file of which a read failed may have to be asked for its key again
abbrev pub HasAnsweredWhereNoFault : {T : Type 0} → (T → ℕ) → Harvester T → Type 0
HasAnsweredWhereNoFault faults harvester = faults harvester.tail ≡ 0 → HasAnswered harvester

-- so it is of one whose tail was closed, in an epoch that there is
pub record IsAnswered (history : History) : Type 0 where
  pub answered : MayReopenAt history.stage
  pub epoch : history.present.epoch ≤ MAX_EPOCH

-- whatever it reported, its present epoch is one that there is
abbrev pub IsInEpoch : {T : Type 0} → TailWords T → Harvester T → Type 0
IsInEpoch tails harvester = (history : History) → HasTold tails.numbers tails.told history harvester → history.present.epoch ≤ MAX_EPOCH

-- each epoch of which an event was told is one that there is
abbrev pub AreToldInEpochs : List Telling → Type 0
AreToldInEpochs tellings = AllByRecursion (λ telling. (telling.told ≡ []) ⊎ (telling.epoch ≤ MAX_EPOCH)) tellings

-- ---- by what the folder reported

-- how often the looks of a tail that went on from this place found the length below what was read: each fall begins a segment
abbrev pub falls_in : ℕ → List Look → ℕ
falls_in place looks = length (segments_of place looks) - 1

-- the listed file was opened since then, and its tail was closed with these looks: it still had its key wherever its length had fallen, its
-- first epoch is one that there is, and that epoch and these falls are one above the last of the epochs from 0 to `MAX_EPOCH`
pub record RanOutOfEpochs (inputs : List InputRule) (rows : List Row) (one : Listed) (before after : FolderHistory) : Type 0 where
  pub rule : InputRule
  pub rule_is : slice_get inputs one.input ≡ Some rule
  pub key : List ℕ
  pub key_is : one.key ≡ Some key
  pub opening : ℕ
  pub since : length before.events ≤ opening
  pub number : ℕ
  pub file : File
  pub file_is : slice_get after.files number ≡ Some file
  pub begun : Sight
  pub opened : slice_get after.events opening ≡ Some (Opened one.path number begun)
  pub looks : List Look
  pub closed : WasClosedWith after opening looks
  pub kept_key : AllByRecursion (KeepsKey rule key one.path file) (segments_of (start_among rows one).base looks)
  pub began_in : (start_among rows one).epoch ≤ MAX_EPOCH
  pub above_the_last : (start_among rows one).epoch + falls_in (start_among rows one).base looks ≡ MAX_EPOCH + 1

-- ---- by the account

-- each epoch of which an event was told is one that there is
abbrev pub IsToldInEpochs : SlotAccount → Type 0
IsToldInEpochs one = AllByRecursion (λ epoch. (epoch.told ≡ []) ⊎ (epoch.epoch ≤ MAX_EPOCH)) one.epochs

-- the file of the slot, which this tail followed, needed no epoch above the last: each of its epochs is one that there is, and so is the one
-- with which it was begun with one more for each time that its length fell while it kept its key
pub record HasItsEpochs (one : SlotAccount) (tail : FollowedTail) : Type 0 where
  pub each : AllByRecursion (λ epoch. epoch.epoch ≤ MAX_EPOCH) one.epochs
  pub falls : one.following.epoch + falls_in tail.place tail.looks ≤ MAX_EPOCH
