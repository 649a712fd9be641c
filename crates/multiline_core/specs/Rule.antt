-- What a rule for events asks in the settings (Filebeat reference, multiline; the ranges are this project's profile).
use Rattle.std.specs.Prelude.{ℕ, ◌≤◌, IfSome}
use Rattle.event_tree.specs.declared.group_rule.GroupRule.{GroupRule}
use Rattle.event_tree.specs.declared.group_rule.GroupRule.TheVariants.{Single, Count, Pattern}
use Rattle.line_cutter.specs.Lines.{IsMessageLimit}
use Rattle.patterns.specs.Pattern.{IsLinePattern}

abbrev pub IsLineCount : ℕ → Type 0
IsLineCount lines = (1 ≤ lines) × (lines ≤ 1000000)

abbrev pub IsTimeout : ℕ → Type 0
IsTimeout milliseconds = (1 ≤ milliseconds) × (milliseconds ≤ 86400000)

-- the rule is one that the settings may have
abbrev pub IsGroupRule : GroupRule → Type 0
IsGroupRule (Single message_max_bytes) = IsMessageLimit message_max_bytes
IsGroupRule (Count count_lines max_lines timeout skip_newline message_max_bytes) =
    IsMessageLimit message_max_bytes × IsLineCount max_lines × IsTimeout timeout × IsLineCount count_lines
IsGroupRule (Pattern pattern negate side flush max_lines timeout skip_newline message_max_bytes) =
    IsMessageLimit message_max_bytes × IsLineCount max_lines × IsTimeout timeout × IsLinePattern pattern × IfSome flush IsLinePattern

-- how many milliseconds after its last line an event is due that no line has ended; without a rule none waits
abbrev pub timeout_of : GroupRule → ℕ
timeout_of (Single message_max_bytes) = 0
timeout_of (Count count_lines max_lines timeout skip_newline message_max_bytes) = timeout
timeout_of (Pattern pattern negate side flush max_lines timeout skip_newline message_max_bytes) = timeout
