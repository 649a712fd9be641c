-- The complete lines of bytes from a place on (Filebeat reference, filestream input, `line_terminator` and
-- `message_max_bytes`): a line's content is what is before its terminator, with `auto` without one carriage return
-- at its end; its head is the first `message_max_bytes` bytes of the content.
use Rattle.std.specs.Prelude.{ℕ, ◌+◌, ◌-◌, ◌≤◌, ◌==◌, Bool, List, [], ◌∷◌, length, take, slice_index, if◌then◌else◌}
use Rattle.event_tree.specs.declared.line_rule.LineRule.{LineRule}
use Rattle.event_tree.specs.declared.line_rule.Terminator.{Terminator}
use Rattle.event_tree.specs.declared.line_rule.Terminator.TheVariants.{Auto, LineFeed, CarriageReturnLineFeed, NullTerminator}
use Rattle.line_cutter.specs.declared.line.Line.{Line}
use Rattle.line_cutter.specs.Cut.{Cut, rest, line, cut, rest_in}
use Rattle.line_cutter.specs.Terminator.{terminator_of}

-- the settings allow this number of bytes of a message
abbrev pub IsMessageLimit : ℕ → Type 0
IsMessageLimit bytes = (1 ≤ bytes) × (bytes ≤ 16777216)

-- the last byte is a carriage return
abbrev pub ends_in_return : List ℕ → Bool
ends_in_return bytes = slice_index bytes (length bytes - 1) == 13

abbrev pub without_return : List ℕ → List ℕ
without_return bytes = if ends_in_return bytes then take (length bytes - 1) bytes else bytes

-- the content of a line, by the bytes before its terminator
abbrev pub content_of : Terminator → List ℕ → List ℕ
content_of Auto body = without_return body
content_of LineFeed body = body
content_of CarriageReturnLineFeed body = body
content_of NullTerminator body = body

-- the place after the terminator of a line that begins at this place
abbrev pub end_of : LineRule → ℕ → List ℕ → ℕ
end_of rule start body = start + length body + length (terminator_of rule.terminator)

abbrev pub line_at : LineRule → ℕ → List ℕ → Line
line_at rule start body = record {
  span = record { start = start; end = end_of rule start body };
  head = take rule.message_max_bytes (content_of rule.terminator body);
  full = length (content_of rule.terminator body);
}

abbrev pub lines_in : LineRule → ℕ → Cut → List Line
lines_in rule start (rest bytes) = []
lines_in rule start (line body behind) = line_at rule start body ∷ lines_in rule (end_of rule start body) behind

-- the complete lines of bytes that begin at this place
abbrev pub complete_lines : LineRule → ℕ → List ℕ → List Line
complete_lines rule start bytes = lines_in rule start (cut (terminator_of rule.terminator) bytes)

-- the bytes after the last complete line
abbrev pub unended : LineRule → List ℕ → List ℕ
unended rule bytes = rest_in (cut (terminator_of rule.terminator) bytes)
