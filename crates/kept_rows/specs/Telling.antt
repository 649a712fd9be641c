-- What is reported in an epoch (Filebeat reference, filestream input and multiline messages; this project's profile), and the
-- account of a run as a whole.
use Rattle.std.specs.Prelude.{◌≡◌, ◌⊎◌, ℕ, ◌<◌, ◌≤◌, ◌==◌, true, List, [], ◌∷◌, ◌++◌, map, Any, Contains, slice_get, Some, IfSome, if◌then◌else◌}
use Rattle.std.specs.List.{AllByRecursion}
use Rattle.std.specs.Option.{option_map_or}
use Rattle.event_tree.specs.declared.input_rule.InputRule.{InputRule}
use Rattle.file_looks.specs.Segment.{read_to}
use Rattle.multiline_core.specs.Rule.{timeout_of}
use Rattle.outside.specs.declared.history.Shown.{Shown}
use Rattle.outside.specs.Files.{File, life_of}
use Rattle.ship_core.specs.Rows.{find}
use Rattle.told_events.specs.Licence.{IsLicensed, LieApart}
use Rattle.told_events.specs.Rules.{Rules, rules_of}
use Rattle.told_events.specs.Told.{AreTold}
use Rattle.wire_base.specs.declared.row.Row.{Row}
use Rattle.kept_rows.specs.Account.{AccountedEvent, EpochAccount, FollowedTail, Following, Reading, SlotAccount, events_of, places_in}
use Rattle.kept_rows.specs.Epochs.{AreEpochs}
use Rattle.kept_rows.specs.Followed.{AreFollowed}
use Rattle.kept_rows.specs.Lost.{WentBy}
use Rattle.kept_rows.specs.Premises.{SlotPremises}
use Rattle.kept_rows.specs.Run.{Run, Scan}
use Rattle.kept_rows.specs.Scans.{AreDistinct, IsBefore, IsBehind, IsFirstPath, IsWhole, ShowsFile, ShowsFileAt, moment_in}
use Rattle.kept_rows.specs.Trace.{IsTail}

-- ---- where an event may be flushed

-- a whole scan that was made after the opening did not show the file with its key
pub record WasRemoved (run : Run) (one : SlotAccount) (opening : ℕ) : Type 0 where
  pub scan : Scan
  pub of_run : Contains run.scans scan
  pub whole : IsWhole run scan
  pub later : IsBehind opening scan
  pub hidden : (path : List ℕ) → ¬ (ShowsFile run scan one.following.key one.number path)

-- its end look ends the file: files are read once, or it was removed
abbrev pub MayEnd : Run → SlotAccount → ℕ → Type 0
MayEnd run one opening = (run.once ≡ true) ⊎ WasRemoved run one opening

abbrev pub IsLicence : Run → Rules → SlotAccount → EpochAccount → List ℕ → ℕ → Type 0
IsLicence run rules one epoch life place =
    Any (λ reading. IsLicensed rules.lines life epoch.start reading.segment (MayEnd run one reading.opening)
    (LieApart run.trace.moments (timeout_of rules.events)) place) epoch.readings

-- ---- by which path, and when

-- its reading read the event's last byte, and the path is the first under which a scan showed the file with its key: the last
-- scan before that reading's opening that showed it, or a later one
pub record IsPathOf (run : Run) (one : SlotAccount) (epoch : EpochAccount) (told : AccountedEvent) : Type 0 where
  pub reading : Reading
  pub reading_is : slice_get epoch.readings told.reading ≡ Some reading
  pub behind_its_start : reading.segment.place < told.event.span.end
  pub read : told.event.span.end ≤ read_to reading.segment
  pub before : List Scan
  pub scan : Scan
  pub behind : List Scan
  pub scans_are : run.scans ≡ before ++ scan ∷ behind
  pub first : IsFirstPath run scan one.following.key one.number told.event.path
  pub none_nearer : AllByRecursion (λ other. (path : List ℕ) → ShowsFile run other one.following.key one.number path → ¬ (IsBefore reading.opening other)) behind

pub record IsToldOf (run : Run) (one : SlotAccount) (epoch : EpochAccount) (told : AccountedEvent) : Type 0 where
  pub path : IsPathOf run one epoch told
  pub given : Contains run.trace.moments told.event.now

-- ---- what is reported

-- the events are reported of the epoch's life, each flush at a place that is licensed
pub record AreToldIn (run : Run) (rules : Rules) (one : SlotAccount) (epoch : EpochAccount) : Type 0 where
  pub file : File
  pub file_is : slice_get run.trace.files one.number ≡ Some file
  pub licensed : AllByRecursion (IsLicence run rules one epoch (life_of file epoch.life)) epoch.licences
  pub told : AreTold rules epoch.licences (life_of file epoch.life) epoch.start (events_of epoch.told)
  pub each : AllByRecursion (IsToldOf run one epoch) epoch.told

abbrev pub IsEpochTold : Run → Rules → SlotAccount → EpochAccount → Type 0
IsEpochTold run rules one epoch = (epoch.told ≡ []) ⊎ AreToldIn run rules one epoch

-- the moment of a key's opening row, or 0 if it has none
abbrev pub opening_moment : List Row → List ℕ → ℕ
opening_moment opening key = option_map_or (λ (row : Row). row.changed.0) (find key opening) 0

-- some scan listed the file with the moment
pub record IsListedMoment (run : Run) (key : List ℕ) (moment : ℕ) : Type 0 where
  pub scan : Scan
  pub of_run : Contains run.scans scan
  pub number : ℕ
  pub shown : Shown
  pub shows : ShowsFileAt run scan key number shown
  pub moment_is : moment ≡ moment_in shown

-- the moment with which a slot begins: that of the key's opening row, 0 if it has none or was made known later
abbrev pub begun_moment : Run → Following → ℕ
begun_moment run following = if following.known_from == 0 then opening_moment run.opening following.key else 0

-- the greatest moment that was noted is the one with which the slot began, or a greater one with which the file was listed
abbrev pub IsNotedMoment : Run → Following → ℕ → Type 0
IsNotedMoment run following moment =
    (moment ≡ begun_moment run following) ⊎ ((begun_moment run following ≤ moment) × IsListedMoment run following.key moment)

-- the tail is of the file of this number
abbrev pub IsTailOf : Run → ℕ → FollowedTail → Type 0
IsTailOf run number tail = (path : List ℕ) × IsTail run.trace tail.opening path number (tail.looks ++ tail.beyond)

pub record IsSlotAccount (run : Run) (one : SlotAccount) : Type 0 where
  pub rule : InputRule
  pub rule_is : slice_get run.settings.inputs one.following.input ≡ Some rule
  pub moment : IsNotedMoment run one.following one.changed
  pub of_one_file : AllByRecursion (IsTailOf run one.number) one.following.tails
  pub epochs : AreEpochs run one
  pub told : AllByRecursion (IsEpochTold run (rules_of rule run.settings.processors) one) one.epochs
  -- a slot whose row is gone lost it rightly
  pub went : IfSome one.following.gone_after (WentBy run run.trace.wires rule one)

-- ---- the whole account

-- slot by slot: each is as the run reported it if its own premises hold. Which epochs it had, and that no two events were acknowledged
-- at one place, supposes nothing
pub record AreSlotAccounts (run : Run) (account : List SlotAccount) : Type 0 where
  pub epochs : AllByRecursion (AreEpochs run) account
  pub each : AllByRecursion (λ one. SlotPremises run one.following → IsSlotAccount run one) account
  pub places_apart : AreDistinct (places_in account)

-- of the run as a whole; no two events were acknowledged at one place
pub record IsAccount (run : Run) (account : List SlotAccount) : Type 0 where
  pub followed : AreFollowed run (map (λ one. one.following) account)
  pub each : AllByRecursion (IsSlotAccount run) account
  pub places_apart : AreDistinct (places_in account)
