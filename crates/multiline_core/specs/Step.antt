-- What one more line does to the lines that wait (this project's profile, as the definition of events has it).
use Rattle.std.specs.Prelude.{ℕ, ◌+◌, ◌==◌, ◌&&◌, not, Bool, List, ◌++◌, take, Option, Some, None, nat_lt, if◌then◌else◌}
use Rattle.wire_base.specs.declared.numbers.Moment.{Moment}
use Rattle.event_tree.specs.declared.group_rule.GroupRule.{GroupRule}
use Rattle.event_tree.specs.declared.group_rule.GroupRule.TheVariants.{Single, Count, Pattern}
use Rattle.event_tree.specs.declared.group_rule.Side.{Side}
use Rattle.event_tree.specs.declared.group_rule.Side.TheVariants.{After, Before}
use Rattle.line_cutter.specs.declared.line.Line.{Line}
use Rattle.multiline_core.specs.declared.group.Group.{Group}
use Rattle.multiline_core.specs.declared.step.Step.{Step}
use Rattle.multiline_core.specs.declared.step.Step.TheVariants.{Join, Last, Next}
use Rattle.multiline_core.specs.Continuing.{continues, flushes}
use Rattle.multiline_core.specs.Gathering.{Gathered}
use Rattle.multiline_core.specs.Message.{limit_of, max_lines_of, skips_newline, separator}

abbrev pub count_step : ℕ → ℕ → Step
count_step waiting count_lines = if waiting + 1 == count_lines then Last else Join

-- what a line that does not flush does to an event that waits with this many lines
abbrev pub unflushed_step : ℕ → Bool → Side → Step
unflushed_step waiting goes_on After = if waiting == 0 then Join else (if goes_on then Join else Next)
unflushed_step waiting goes_on Before = if goes_on then Join else Last

-- the first line of an event does not flush
abbrev pub pattern_step : List ℕ → Bool → Side → Option (List ℕ) → ℕ → Line → Step
pattern_step pattern negate side flush waiting line =
    if not (waiting == 0) && flushes flush line then Last
    else unflushed_step waiting (continues pattern negate line) side

-- what the line does to an event that waits with this many lines, 0 if none waits
abbrev pub step_of : GroupRule → ℕ → Line → Step
step_of (Single message_max_bytes) waiting line = Last
step_of (Count count_lines max_lines timeout skip_newline message_max_bytes) waiting line = count_step waiting count_lines
step_of (Pattern pattern negate side flush max_lines timeout skip_newline message_max_bytes) waiting line =
    pattern_step pattern negate side flush waiting line

-- what is kept of an event's first line, if a message has at most this many bytes
abbrev pub first_gathered : ℕ → Line → Moment → Gathered
first_gathered most line now = record {
  start = line.span.start;
  end = line.span.end;
  lines = 1;
  message = take most line.head;
  read_at = now;
}

-- the message with one more head, if it is one of the heads that are kept
abbrev pub longer_message : ℕ → ℕ → Bool → Gathered → List ℕ → List ℕ
longer_message max_lines most skip_newline gathered head =
    if nat_lt gathered.lines max_lines then take most (gathered.message ++ (separator skip_newline ++ head)) else gathered.message

-- what is kept with one more line
abbrev pub gathered_with : ℕ → ℕ → Bool → Option Gathered → Line → Moment → Gathered
gathered_with max_lines most skip_newline None line now = first_gathered most line now
gathered_with max_lines most skip_newline (Some gathered) line now = record {
  start = gathered.start;
  end = line.span.end;
  lines = gathered.lines + 1;
  message = longer_message max_lines most skip_newline gathered line.head;
  read_at = now;
}

-- the same by the rule
abbrev pub gathered_by : GroupRule → Option Gathered → Line → Moment → Gathered
gathered_by rule gathered line now = gathered_with (max_lines_of rule) (limit_of rule) (skips_newline rule) gathered line now

-- how many lines wait
abbrev pub waiting_of : Option Gathered → ℕ
waiting_of None = 0
waiting_of (Some gathered) = gathered.lines

-- what is kept, as an event that is handed out
abbrev pub group_from : Gathered → Group
group_from gathered = record {
  span = record { start = gathered.start; end = gathered.end };
  message = gathered.message;
  lines = gathered.lines;
}
