-- Rightly lost rows (Filebeat reference, filestream input, `clean_removed` and `clean_inactive`; this project's profile): a
-- key that had an opening row or was begun, and has no row now, is of an input of the settings that cleans it. Either its
-- file was removed and all that was read of it to its end is settled, or it had not changed for long.
use Rattle.std.specs.Prelude.{◌≡◌, ◌⊎◌, ℕ, ◌+◌, ◌-◌, ◌<◌, ◌≤◌, ◌==◌, true, drop, List, [], ◌∷◌, ◌++◌, Contains, slice_get, Some, if◌then◌else◌}
use Rattle.std.specs.List.{AllByRecursion}
use Rattle.event_tree.specs.declared.input_rule.InputRule.{InputRule}
use Rattle.file_looks.specs.EndLook.{HasEndLook}
use Rattle.outside.specs.declared.history.Shown.{Shown}
use Rattle.outside.specs.Files.{File, life_of}
use Rattle.outside.specs.Folders.{Closed}
use Rattle.outside.specs.declared.history.Look.{Look}
use Rattle.told_events.specs.Licence.{whole_lines_end}
use Rattle.kept_rows.specs.Account.{EpochAccount, FollowedTail, Reading, SlotAccount, key_of, slot_of}
use Rattle.kept_rows.specs.Epochs.{next_place}
use Rattle.kept_rows.specs.Kept.{IsSettled}
use Rattle.kept_rows.specs.Premises.{SlotPremises}
use Rattle.kept_rows.specs.Run.{Run, Scan}
use Rattle.kept_rows.specs.Scans.{IsBehind, IsFirstPath, IsOld, IsWhole, ShowsFileAt, ShowsKey}
use Rattle.kept_rows.specs.Trace.{WireTold}

-- ---- no tail of it was open as the scan was made

-- the tail was closed, after its own opening, before the scan
pub record WasClosedBefore (run : Run) (scan : Scan) (tail : FollowedTail) : Type 0 where
  pub place : ℕ
  pub looks : List Look
  pub faults : ℕ
  pub closed : slice_get run.trace.events place ≡ Some (Closed tail.opening looks faults)
  pub since : tail.opening < place
  pub before : IsBehind place scan

abbrev pub HadNoOpenTail : Run → Scan → SlotAccount → Type 0
HadNoOpenTail run scan one = AllByRecursion (WasClosedBefore run scan) one.following.tails

-- ---- it was removed

-- the last looks of its last tail, which was open as the scan was made, are its end look, and all that was reported of its last epoch is settled. It ends
-- at the end of the last complete line there, or at the start place if there is none, so that a row there would be kept: this supposes the
-- premises of the slot, since only by these all bytes that were read of the epoch are of its life. Nothing else supposes anything
pub record IsReadAndSettled (run : Run) (wires : List WireTold) (rule : InputRule) (scan : Scan) (one : SlotAccount) : Type 0 where
  pub earlier : List EpochAccount
  pub epoch : EpochAccount
  pub epochs_are : one.epochs ≡ earlier ++ epoch ∷ []
  pub before : List Reading
  pub reading : Reading
  pub readings_are : epoch.readings ≡ before ++ reading ∷ []
  pub opened_before : IsBehind reading.opening scan
  pub place : ℕ
  pub found : HasEndLook reading.segment place
  pub nothing_behind : found.behind ≡ []
  pub file : File
  pub file_is : slice_get run.trace.files one.number ≡ Some file
  pub settled : AllByRecursion (IsSettled wires) epoch.told
  pub all_told : SlotPremises run one.following → next_place epoch ≡ whole_lines_end rule.lines (life_of file epoch.life) epoch.start place

-- a whole scan, made at or after the one at which the key was begun, showed no file with it
pub record WasRemovedRightly (run : Run) (wires : List WireTold) (rule : InputRule) (one : SlotAccount) : Type 0 where
  pub cleans : rule.clean_removed ≡ true
  pub number : ℕ
  pub scan : Scan
  pub scan_is : slice_get run.scans number ≡ Some scan
  pub since : one.following.known_from ≤ number
  pub whole : IsWhole run scan
  pub hidden : ¬ (ShowsKey run scan one.following.key)
  pub done : HadNoOpenTail run scan one ⊎ IsReadAndSettled run wires rule scan one

-- as the run goes on, the premises of the slot hold of what was before
abbrev pub HeldBefore : Run → Run → SlotAccount → SlotAccount → Type 0
HeldBefore before now one same = SlotPremises now same.following → SlotPremises before one.following

-- ---- it had not changed for long

-- the tail was closed, after its own opening, before each scan after the one of this number
pub record WasClosedBehind (run : Run) (number : ℕ) (tail : FollowedTail) : Type 0 where
  pub place : ℕ
  pub looks : List Look
  pub faults : ℕ
  pub closed : slice_get run.trace.events place ≡ Some (Closed tail.opening looks faults)
  pub since : tail.opening < place
  pub before : AllByRecursion (IsBehind place) (drop (number + 1) run.scans)

abbrev pub HadNoOpenTailBehind : Run → ℕ → SlotAccount → Type 0
HadNoOpenTailBehind run number one = AllByRecursion (WasClosedBehind run number) one.following.tails

-- the moment of its row; that of the first scan if it has none
abbrev pub moment_or_first : ℕ → Scan → ℕ
moment_or_first moment first = if moment == 0 then first.moment else moment

-- the scan showed it under a path that it skipped as old
pub record WasPassedOverAsOld (run : Run) (rule : InputRule) (scan : Scan) (key : List ℕ) : Type 0 where
  pub number : ℕ
  pub shown : Shown
  pub shows : ShowsFileAt run scan key number shown
  pub first : IsFirstPath run scan key number shown.entry.path
  pub old : IsOld rule scan shown

pub record WasInactiveRightly (run : Run) (rule : InputRule) (one : SlotAccount) : Type 0 where
  pub cleans : 0 < rule.clean_inactive
  pub first : Scan
  pub first_is : slice_get run.scans 0 ≡ Some first
  pub number : ℕ
  pub scan : Scan
  pub scan_is : slice_get run.scans number ≡ Some scan
  pub since : one.following.known_from ≤ number
  pub whole : IsWhole run scan
  pub none_open : HadNoOpenTailBehind run number one
  pub long_ago : rule.clean_inactive ≤ scan.moment - moment_or_first one.changed first
  pub hidden_or_old : (¬ (ShowsKey run scan one.following.key)) ⊎ WasPassedOverAsOld run rule scan one.following.key

-- ---- together

-- its row went by a scan that is not after the scan of this number
pub record WentBy (run : Run) (wires : List WireTold) (rule : InputRule) (one : SlotAccount) (last : ℕ) : Type 0 where
  pub why : ((removed : WasRemovedRightly run wires rule one) × (removed.number ≤ last)) ⊎ ((inactive : WasInactiveRightly run rule one) × (inactive.number ≤ last))

-- a slot of the key went rightly: the same in an image, where a newer slot may not have its row yet
pub record IsRightlyLostInImage (run : Run) (account : List SlotAccount) (wires : List WireTold) (key : List ℕ) : Type 0 where
  pub one : SlotAccount
  pub of_account : Contains account one
  pub key_is : key_of one ≡ key
  pub rule : InputRule
  pub rule_is : slice_get run.settings.inputs one.following.input ≡ Some rule
  pub why : WasRemovedRightly run wires rule one ⊎ WasInactiveRightly run rule one

-- at the end: its newest slot
pub record IsRightlyLost (run : Run) (account : List SlotAccount) (wires : List WireTold) (key : List ℕ) : Type 0 where
  pub lost : IsRightlyLostInImage run account wires key
  pub newest : AllByRecursion (λ other. key_of other ≡ key → slot_of other ≤ slot_of lost.one) account
