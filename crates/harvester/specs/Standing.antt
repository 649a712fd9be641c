-- For which histories a harvester stands, the looks of its tail aside.
use Rattle.std.specs.Prelude.{◌≡◌, ◌⊎◌, ℕ, ◌<◌, ◌≤◌, Bool, true, false, List, [], ◌∷◌, ◌++◌, take, length, Contains, Option, Some, None}
use Rattle.std.specs.List.{AllByRecursion}
use Rattle.line_cutter.specs.Lines.{IsMessageLimit}
use Rattle.multiline_core.specs.Message.{row_end}
use Rattle.told_events.specs.Licence.{LieApart, whole_lines_end}
use Rattle.wire_base.specs.Ranges.{IsMoment, IsPlace}
use Rattle.file_identity.specs.Answers.{IsAskable}
use Rattle.harvester.specs.declared.stage.Stage.{Stage as ReaderStage}
use Rattle.harvester.specs.declared.stage.Stage.TheVariants as reader
use Rattle.multiline_core.specs.declared.group.Group.{Group}
use Rattle.told_events.specs.Fate.{fate_of}
use Rattle.told_events.specs.Rules.{Rules}
use Rattle.told_events.specs.Told.{ToldEvent}
use Rattle.wire_base.specs.Extent.{Extent}
use Rattle.harvester.specs.declared.fate_rules.EventFate.{EventFate}
use Rattle.harvester.specs.Deciding.{shown}
use Rattle.harvester.specs.Gathered.{Gathered, IsGathered, lines_of}
use Rattle.harvester.specs.History.{HasBytes, History, IsPast, IsTelling, Stage, Reads, Asks, Ended, Changed, Over, complete_in, read_to, rules_in, timeout_in, told_to, with_events, with_licences, with_present}
use Rattle.harvester.specs.Held.{Held}

abbrev pub stage_of : ReaderStage → Stage
stage_of reader.Reading = Reads
stage_of reader.Asking = Asks
stage_of reader.Ended = Ended
stage_of reader.Changed = Changed
stage_of reader.Over = Over

-- if the end may be found, it is
abbrev pub stage_behind_end : Bool → ReaderStage
stage_behind_end true = reader.Ended
stage_behind_end false = reader.Reading

abbrev pub given_path : List ℕ → Option (List ℕ) → List ℕ
given_path first None = first
given_path first (Some later) = later

-- the bytes that were read and not fed yet
abbrev pub unfed : Held → List ℕ
unfed held = take held.filled held.buffer

-- what was read of the present epoch was fed, or waits to be; of what was fed these lines are gathered, and the reported events
-- are reported
pub record HasGathered (history : History) (held : Held) (of : Gathered) : Type 0 where
  pub fed : List ℕ
  pub bytes : history.present.bytes ≡ fed ++ unfed held
  pub gathered : IsGathered (rules_in history) history.present.start fed history.present.licences of held.events
  pub told_to : row_end history.present.start of.told ≡ held.told_to

-- with what it was opened, and what it was given since
pub record Follows (history : History) (held : Held) : Type 0 where
  pub begin : held.begin ≡ history.begin
  pub path : given_path held.begin.path held.renamed ≡ history.path
  pub input : held.input ≡ history.rule.id
  pub identity : held.identity ≡ history.rule.file_identity
  pub askable : IsAskable held.identity
  pub limit : IsMessageLimit history.rule.lines.message_max_bytes
  pub epoch : held.epoch.0 ≡ history.present.epoch
  pub stage : stage_of held.stage ≡ history.stage
  pub ends : held.ends ≡ history.ends
  pub forgets : held.forgets ≡ history.forgets

-- the last read and the last line were at moments that were given
pub record HasMoments (history : History) (held : Held) : Type 0 where
  pub read_at : Contains history.moments held.read_at.0
  pub last_line : Contains history.moments held.events.last_line.0
  pub in_range : IsMoment held.read_at

-- up to which place was read, and the room for the next read, in bytes
pub record HasPosition (history : History) (held : Held) : Type 0 where
  pub position : held.position ≡ read_to history.present
  pub in_range : IsPlace held.position
  pub some_room : 0 < length held.buffer
  pub within : held.filled ≤ length held.buffer

-- whichever lines are gathered
pub record Holds (history : History) (held : Held) (of : Gathered) : Type 0 where
  pub follows : Follows history held
  pub moments : HasMoments history held
  pub position : HasPosition history held
  pub has : HasGathered history held of
  pub told_place : held.told_to ≡ told_to history.present
  pub past : AllByRecursion (IsTelling (rules_in history)) history.past
  pub present : IsTelling (rules_in history) history.present

-- some history
pub record HasHistory (held : Held) : Type 0 where
  pub history : History
  pub of : Gathered
  pub holds : Holds history held of

-- all complete lines of what was read are gathered
abbrev pub AreAll : History → Gathered → Type 0
AreAll history of = complete_in history ≡ lines_of of

-- then the last one is the last that was gathered; and if some are not, the last read gave it
abbrev pub HasLastLine : History → Held → Gathered → Type 0
HasLastLine history held of =
    (AreAll history of × (held.events.last_line.0 ≡ history.last_line))
    ⊎ ((length (lines_of of) < length (complete_in history)) × (held.read_at.0 ≡ history.last_line))

-- if the file is read no further, all are gathered; at its end none waits
abbrev pub IsGatheredAt : Stage → History → Gathered → Type 0
IsGatheredAt Reads history of = Unit {0}
IsGatheredAt Asks history of = AreAll history of
IsGatheredAt Ended history of = AreAll history of × (of.waiting ≡ [])
IsGatheredAt Changed history of = Unit {0}
IsGatheredAt Over history of = Unit {0}

pub record StandsFor (history : History) (held : Held) : Type 0 where
  pub of : Gathered
  pub holds : Holds history held of
  pub last_line : HasLastLine history held of
  pub at_stage : IsGatheredAt history.stage history of

-- all complete lines of what was read are gathered, and no event is closed
pub record AllGathered (history : History) (held : Held) : Type 0 where
  pub stands : StandsFor history held
  pub all : AreAll history stands.of
  pub none_unfed : held.filled ≡ 0
  pub none_closed : stands.of.closed ≡ []

-- the last complete line of what was read ends at this place
abbrev pub EndsLines : History → ℕ → Type 0
EndsLines history place = (life : List ℕ) → HasBytes history.present.start history.present.bytes life →
    whole_lines_end history.rule.lines life history.present.start (read_to history.present) ≡ place

-- the event that waited was closed as it is, if the file's end was found or its timeout has passed
pub record WasClosed (history : History) (now : ℕ) (ended : Bool) (held : Held) : Type 0 where
  pub licences : List ℕ
  pub stands : StandsFor (with_present (with_licences licences history.present) history) held
  pub end_lines : AllByRecursion (EndsLines history) licences
  pub why : (licences ≡ []) ⊎ ((ended ≡ true) ⊎ LieApart history.moments (timeout_in history))
  pub where_due : (licences ≡ []) ⊎ ((ended ≡ true) ⊎ IsPast history now)
  pub all : AreAll history stands.of
  pub none_at_end : ended ≡ true → stands.of.waiting ≡ []
  pub none_due : held.events.closed ≡ None → (stands.of.waiting ≡ []) ⊎ (¬ (IsPast history now))

-- its fate by the rules
abbrev pub IsFateBy : Rules → List ℕ → ℕ → EventFate × Extent → Group → Type 0
IsFateBy rules path now told group = shown told.0 ≡ fate_of rules path group.span.start group.message now

-- the last of the moments is this one
pub record EndsAt (moments : List ℕ) (now : ℕ) : Type 0 where
  pub earlier : List ℕ
  pub are : moments ≡ earlier ++ now ∷ []

-- if an event is closed that is reported with this span and fate, the history goes on with it
abbrev pub TellsOne : History → ToldEvent → Held → Group → Type 0
TellsOne history event after group =
    event.span ≡ group.span → event.fate ≡ fate_of (rules_in history) event.path group.span.start group.message event.now →
    StandsFor (with_present (with_events (event ∷ []) history.present) history) after
