-- Where a terminator ends among bytes that follow others (Filebeat reference, filestream input, `line_terminator`), and
-- what a cutter makes of a line that ends there (this project's profile).
use Rattle.std.specs.Prelude.{ℕ, ◌+◌, ◌-◌, ◌==◌, ◌&&◌, Bool, true, false, List, [], ◌++◌, length, take, drop, slice_index, if◌then◌else◌}
use Rattle.event_tree.specs.declared.line_rule.Terminator.{Terminator}
use Rattle.event_tree.specs.declared.line_rule.Terminator.TheVariants.{Auto, LineFeed, CarriageReturnLineFeed, NullTerminator}
use Rattle.line_cutter.specs.declared.line.Line.{Line}
use Rattle.line_cutter.specs.Cutting.{Cutting}

-- the byte before this place is a carriage return; `after` says it of the byte before the first
abbrev pub return_before : Bool → List ℕ → ℕ → Bool
return_before after bytes place = if place == 0 then after else slice_index bytes (place - 1) == 13

-- the byte at this place is the last of a terminator
abbrev pub is_end : Terminator → Bool → List ℕ → ℕ → Bool
is_end Auto after bytes place = slice_index bytes place == 10
is_end LineFeed after bytes place = slice_index bytes place == 10
is_end CarriageReturnLineFeed after bytes place = (slice_index bytes place == 10) && return_before after bytes place
is_end NullTerminator after bytes place = slice_index bytes place == 0

-- a carriage return before the last byte of the terminator is no part of the content
abbrev pub leaves_return : Terminator → Bool
leaves_return Auto = true
leaves_return LineFeed = false
leaves_return CarriageReturnLineFeed = true
leaves_return NullTerminator = false

-- how many bytes the content has of a line whose terminator ends at this place of the unread bytes
abbrev pub full_to : Cutting → ℕ → ℕ
full_to cutter at =
    if leaves_return cutter.rule.terminator && return_before cutter.after_return cutter.unread at then cutter.passed + at - 1
    else cutter.passed + at

-- the head of what was passed, and of these bytes after it
abbrev pub head_with : Cutting → List ℕ → List ℕ
head_with cutter bytes = cutter.head ++ take (cutter.rule.message_max_bytes - length cutter.head) bytes

-- the line whose terminator ends at this place of the unread bytes
abbrev pub line_to : Cutting → ℕ → Line
line_to cutter at = record {
  span = record { start = cutter.start; end = cutter.start + (cutter.passed + at) + 1 };
  head = take (full_to cutter at) (head_with cutter (take at cutter.unread));
  full = full_to cutter at;
}

-- the cutter once that line is handed out
abbrev pub behind_line : Cutting → ℕ → Cutting
behind_line cutter at = record {
  rule = cutter.rule;
  start = cutter.start + (cutter.passed + at) + 1;
  head = [];
  passed = 0;
  after_return = false;
  unread = drop (at + 1) cutter.unread;
}

-- the cutter once it has passed all unread bytes
abbrev pub behind_all : Cutting → Cutting
behind_all cutter = record {
  rule = cutter.rule;
  start = cutter.start;
  head = head_with cutter cutter.unread;
  passed = cutter.passed + length cutter.unread;
  after_return = return_before cutter.after_return cutter.unread (length cutter.unread);
  unread = [];
}
