-- What is gathered of the bytes that were fed of one life (Filebeat reference, filestream input and multiline messages;
-- this project's profile): their complete lines, by what became of them.
use Rattle.std.specs.Prelude.{◌≡◌, ◌⊎◌, ℕ, ◌+◌, ◌-◌, ◌<◌, ◌≤◌, Bool, false, List, [], ◌++◌, length, Contains, Option, Some, None, Result, IfOk, option_to_list, map}
use Rattle.event_tree.specs.declared.line_rule.LineRule.{LineRule}
use Rattle.line_cutter.specs.Cutting.{Cutting, HasCut, fed_to}
use Rattle.line_cutter.specs.Lines.{complete_lines}
use Rattle.line_cutter.specs.Row.{AreAdjoining}
use Rattle.line_cutter.specs.declared.line.Line.{Line}
use Rattle.multiline_core.specs.Event.{IsNatural}
use Rattle.multiline_core.specs.Gathering.{Gathers, IsFlushable}
use Rattle.multiline_core.specs.Message.{group_of, row_end}
use Rattle.multiline_core.specs.declared.group.Group.{Group}
use Rattle.told_events.specs.Rules.{Rules}
use Rattle.wire_base.specs.declared.memory.NoMemory.{NoMemory}
use Rattle.wire_base.specs.declared.numbers.Moment.{Moment}
use Rattle.harvester.specs.declared.events.Events.{Events}

-- lines one after another
pub record Gathered : Type 0 where
  -- of the events that were reported
  pub told : List Line
  -- of the event that is closed and not reported yet
  pub closed : List Line
  -- of the event that no line has ended
  pub waiting : List Line

abbrev pub none_gathered : Gathered
none_gathered = record { told = []; closed = []; waiting = [] }

-- all of them
abbrev pub lines_of : Gathered → List Line
lines_of of = of.told ++ (of.closed ++ of.waiting)

-- the closed event was reported
abbrev pub all_told : Gathered → Gathered
all_told of = record { told = of.told ++ of.closed; closed = []; waiting = of.waiting }

-- the event that waited is closed as it is
abbrev pub all_flushed : Gathered → Gathered
all_flushed of = record { told = of.told; closed = of.waiting; waiting = [] }

-- by rule, or flushed if it may be
abbrev pub IsEnded : Rules → List ℕ → List Line → List Line → Type 0
IsEnded rules licences closed waiting =
    IsNatural rules.events (closed ++ waiting) closed
    ⊎ (IsFlushable rules.events closed × Contains licences (row_end 0 closed))

pub record IsClosedEvent (rules : Rules) (licences : List ℕ) (closed waiting : List Line) (group : Group) : Type 0 where
  pub group_is : group ≡ group_of rules.events closed
  pub ended : IsEnded rules licences closed waiting

abbrev pub AreClosed : Rules → List ℕ → List Line → List Line → Option Group → Type 0
AreClosed rules licences closed waiting None = closed ≡ []
AreClosed rules licences closed waiting (Some group) = IsClosedEvent rules licences closed waiting group

-- these lines were cut, and adjoin within what was fed
pub record AreCut (rule : LineRule) (start : ℕ) (fed : List ℕ) (given : List Line) (cutter : Cutting) : Type 0 where
  pub cut : HasCut rule start fed given cutter
  pub adjoin : AreAdjoining start given
  pub within : row_end start given ≤ fed_to cutter

-- these are gathered of the bytes that were fed from the start on, and the rest was cut and not gathered
pub record IsGatheredBut (rules : Rules) (start : ℕ) (fed licences : List ℕ) (of : Gathered) (rest : List Line) (events : Events) : Type 0 where
  pub lines : events.lines ≡ rules.lines
  pub cut : AreCut rules.lines start fed (lines_of of ++ rest) events.cutter
  pub gathers : Gathers rules.events of.waiting events.last_line events.grouper
  pub closed : AreClosed rules licences of.closed of.waiting events.closed

abbrev pub IsGathered : Rules → ℕ → List ℕ → List ℕ → Gathered → Events → Type 0
IsGathered rules start fed licences of events = IsGatheredBut rules start fed licences of (option_to_list events.line) events

-- for some bytes
pub record SomeGathered (events : Events) : Type 0 where
  pub rules : Rules
  pub start : ℕ
  pub fed : List ℕ
  pub licences : List ℕ
  pub of : Gathered
  pub is : IsGathered rules start fed licences of events

-- lines were gathered that were read at this moment, or none
abbrev pub HasMoved : Gathered → Gathered → Moment → Moment → Moment → Type 0
HasMoved of after last now last_line =
    ((lines_of after ≡ lines_of of) × (last_line ≡ last)) ⊎ ((length (lines_of of) < length (lines_of after)) × (last_line ≡ now))

pub record Moved (rules : Rules) (start : ℕ) (fed licences : List ℕ) (of : Gathered) (last now : Moment) (events : Events) : Type 0 where
  pub after : Gathered
  pub same_told : after.told ≡ of.told
  pub is : IsGathered rules start fed licences after events
  pub last_line : HasMoved of after last now events.last_line

-- if none is closed, all complete lines are gathered
pub record Found (rules : Rules) (start : ℕ) (fed licences : List ℕ) (of : Gathered) (last now : Moment) (result : Result Bool NoMemory) (events : Events) : Type 0 where
  pub moved : Moved rules start fed licences of last now events
  pub all : IfOk result (λ found. found ≡ false → complete_lines rules.lines start fed ≡ lines_of moved.after)

-- when the event is flushed that was just closed
abbrev pub flushed_at : Option Group → List ℕ
flushed_at closed = map (λ group. group.span.end) (option_to_list closed)

-- at least as much as there are lines that were not gathered
abbrev pub left_in : Events → ℕ
left_in events = (fed_to events.cutter - events.cutter.start) + length (option_to_list events.line)
