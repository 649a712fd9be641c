-- The worked values of continuing lines, events and messages, computed by the definitions.
use Rattle.std.proofs.Common.{◌≡◌, ℕ, true, false, List, [], ◌∷◌, None, not, refl, ap, codes, length}
use Rattle.event_tree.specs.declared.group_rule.GroupRule.{GroupRule}
use Rattle.event_tree.specs.declared.group_rule.GroupRule.TheVariants.{Count, Pattern}
use Rattle.event_tree.specs.declared.group_rule.Side.TheVariants.{After}
use Rattle.event_tree.specs.declared.line_rule.LineRule.{LineRule}
use Rattle.event_tree.specs.declared.line_rule.Terminator.TheVariants.{Auto}
use Rattle.line_cutter.specs.declared.line.Line.{Line}
use Rattle.patterns.proofs.Worked.{bracket_begins, bracket_does_not_begin, backslash_ends, letter_ends}
use Rattle.multiline_core.specs.Continuing.{continues}
use Rattle.multiline_core.specs.Message.{message_of, group_of}
use Rattle.multiline_core.specs.Partition.{lines_from}

abbrev by_default : LineRule
by_default = record { terminator = Auto; message_max_bytes = 10485760 }

abbrev from_to : ℕ → ℕ → List ℕ → Line
from_to start end head = record { span = record { start = start; end = end }; head = head; full = length head }

-- multiline_after: `[1`, ` x`, ` y`, `[2`
abbrev traces : List ℕ
traces = codes "[1\n x\n y\n[2\n"

abbrev after_rule : GroupRule
after_rule = Pattern (codes "^\\[") true After None 500 5000 false 10485760

trace_lines : lines_from by_default traces 0
    ≡ from_to 0 3 (codes "[1") ∷ from_to 3 6 (codes " x") ∷ from_to 6 9 (codes " y") ∷ from_to 9 12 (codes "[2") ∷ []
trace_lines = refl

first_continues : continues (codes "^\\[") true (from_to 0 3 (codes "[1")) ≡ false
first_continues = ap not bracket_begins

second_continues : continues (codes "^\\[") true (from_to 3 6 (codes " x")) ≡ true
second_continues = ap not bracket_does_not_begin

trace_event : group_of after_rule (from_to 0 3 (codes "[1") ∷ from_to 3 6 (codes " x") ∷ from_to 6 9 (codes " y") ∷ [])
    ≡ record { span = record { start = 0; end = 9 }; message = codes "[1\n x\n y"; lines = 3 }
trace_event = refl

-- multiline_before: `a\`, `b`, `c\`
ends_in_backslash : continues (codes "\\\\$") false (from_to 0 3 (codes "a\\")) ≡ true
ends_in_backslash = backslash_ends

ends_in_letter : continues (codes "\\\\$") false (from_to 3 5 (codes "b")) ≡ false
ends_in_letter = letter_ends

-- max_lines_cuts_message: the line `s` and five lines ` x`, of which two are kept
abbrev two_lines : GroupRule
two_lines = Pattern (codes "^ ") false After None 2 5000 false 10485760

six_lines : group_of two_lines (lines_from by_default (codes "s\n x\n x\n x\n x\n x\n") 0)
    ≡ record { span = record { start = 0; end = 17 }; message = codes "s\n x"; lines = 6 }
six_lines = refl

-- joined by nothing, and cut after the joining
without_newlines : message_of (Count 2 500 5000 true 3) (lines_from by_default (codes "ab\ncd\n") 0) ≡ codes "abc"
without_newlines = refl

with_newlines : message_of (Count 2 500 5000 false 3) (lines_from by_default (codes "ab\ncd\n") 0) ≡ codes "ab\n"
with_newlines = refl
