-- What a harvester reported of its file so far (Filebeat reference, filestream input and multiline messages; this project's
-- profile): for each epoch what was read of it, where an event may be flushed, and the events that were reported, each with
-- its fate. The file of an epoch is reported from its start on: the place with which the harvester began, or the first byte.
use Rattle.std.specs.Prelude.{◌≡◌, ℕ, ◌+◌, ◌-◌, ◌≤◌, ltb, cond, Bool, true, false, List, [], ◌∷◌, ◌++◌, drop, length}
use Rattle.event_tree.specs.declared.input_rule.InputRule.{InputRule}
use Rattle.event_tree.specs.declared.processor_rule.ProcessorRule.{ProcessorRule}
use Rattle.line_cutter.specs.Lines.{complete_lines}
use Rattle.line_cutter.specs.declared.line.Line.{Line}
use Rattle.multiline_core.specs.Rule.{timeout_of}
use Rattle.outside.specs.declared.history.Look.{Look}
use Rattle.ship_core.specs.CoveredEnd.{last_end}
use Rattle.told_events.specs.Rules.{Rules, rules_of}
use Rattle.told_events.specs.Told.{AreTold, ToldEvent, spans_of}
use Rattle.wire_base.specs.declared.note.Begin.{Begin}

-- one epoch
pub record Telling : Type 0 where
  pub epoch : ℕ
  pub start : ℕ
  -- the bytes that were read, from the start on
  pub bytes : List ℕ
  -- the places at which an event may be flushed
  pub licences : List ℕ
  pub told : List ToldEvent

-- the place after the last event that was reported, and the place after the last byte that was read
abbrev pub told_to : Telling → ℕ
told_to telling = last_end telling.start (spans_of telling.told)

abbrev pub read_to : Telling → ℕ
read_to telling = telling.start + length telling.bytes

-- the state of the file
pub data Stage : Type 0 where
  -- it is read on
  Reads : Stage
  -- its length was below what was read, and its key was not known yet
  Asks : Stage
  -- its end was found, and it is read no further
  Ended : Stage
  -- it has another key
  Changed : Stage
  -- it has the same key, and the last epoch is over
  Over : Stage

pub record History : Type 0 where
  pub rule : InputRule
  pub processors : List ProcessorRule
  -- with which it was opened
  pub begin : Begin
  -- what the tail had reported before
  pub before : List Look
  -- the path that was given last
  pub path : List ℕ
  -- the epochs that are over, and the present one
  pub past : List Telling
  pub present : Telling
  -- the moments of the opening and of each turn
  pub moments : List ℕ
  -- the moment of the last turn that read a complete line, or of the opening
  pub last_line : ℕ
  pub stage : Stage
  -- whether later turns may find the end, whether some turn might, and whether the file is to be forgotten then
  pub ends : Bool
  pub may_end : Bool
  pub forgets : Bool

abbrev pub rules_in : History → Rules
rules_in history = rules_of history.rule history.processors

-- how long an event waits for a line, in milliseconds
abbrev pub timeout_in : History → ℕ
timeout_in history = timeout_of history.rule.multiline

-- the complete lines of what was read of the present epoch
abbrev pub complete_in : History → List Line
complete_in history = complete_lines history.rule.lines history.present.start history.present.bytes

-- those after what was reported
abbrev pub left_to_tell : History → List Line
left_to_tell history =
    complete_lines history.rule.lines (told_to history.present) (drop (told_to history.present - history.present.start) history.present.bytes)

-- the life goes on with these bytes from the start on
pub record HasBytes (start : ℕ) (bytes life : List ℕ) : Type 0 where
  pub within : start ≤ length life
  pub more : List ℕ
  pub behind : drop start life ≡ bytes ++ more

-- the events are reported of each life that has the bytes which were read
abbrev pub IsTelling : Rules → Telling → Type 0
IsTelling rules telling =
    (life : List ℕ) → HasBytes telling.start telling.bytes life → AreTold rules telling.licences life telling.start telling.told

-- ---- how it goes on

abbrev pub beginning : ℕ → ℕ → Telling
beginning epoch start = record { epoch = epoch; start = start; bytes = []; licences = []; told = [] }

abbrev pub opened : InputRule → List ProcessorRule → Begin → List Look → ℕ → History
opened rule processors begin before now = record {
  rule = rule;
  processors = processors;
  begin = begin;
  before = before;
  path = begin.path;
  past = [];
  present = beginning begin.epoch.0 begin.base;
  moments = now ∷ [];
  last_line = now;
  stage = Reads;
  ends = false;
  may_end = false;
  forgets = false;
}

abbrev pub with_bytes : List ℕ → Telling → Telling
with_bytes bytes telling = record telling { bytes = telling.bytes ++ bytes }

abbrev pub with_licences : List ℕ → Telling → Telling
with_licences places telling = record telling { licences = telling.licences ++ places }

abbrev pub with_events : List ToldEvent → Telling → Telling
with_events events telling = record telling { told = telling.told ++ events }

abbrev pub with_present : Telling → History → History
with_present telling history = record history { present = telling }

-- a turn at this moment read these bytes
abbrev pub with_read : ℕ → List ℕ → History → History
with_read now bytes history = record history {
  present = with_bytes bytes history.present;
  last_line = cond (ltb (length (complete_in history)) (length (complete_in (with_present (with_bytes bytes history.present) history)))) now history.last_line;
}

-- the timeout has passed since the last complete line was read
abbrev pub IsPast : History → ℕ → Type 0
IsPast history now = timeout_in history ≤ now - history.last_line

-- the next epoch begins at the first byte
abbrev pub with_epoch : History → History
with_epoch history = record history { past = history.past ++ history.present ∷ []; present = beginning (history.present.epoch + 1) 0; stage = Reads }

abbrev pub with_stage : Stage → History → History
with_stage stage history = record history { stage = stage }

abbrev pub with_path : List ℕ → History → History
with_path path history = record history { path = path }

-- later turns may find the end; whether the file is to be forgotten then
abbrev pub with_ending : Bool → History → History
with_ending forget history = record history { ends = true; forgets = forget }
