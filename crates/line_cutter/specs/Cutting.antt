-- What a cutter stands for (this project's profile): the rule and the place with which it was made, the bytes that it was
-- fed, and the lines that it has handed out. It keeps a head of a line that is not complete, not the line.
use Rattle.std.specs.Prelude.{◌≡◌, ℕ, ◌+◌, Bool, List, [], ◌++◌, length, take}
use Rattle.event_tree.specs.declared.line_rule.LineRule.{LineRule}
use Rattle.line_cutter.specs.declared.line.Line.{Line}
use Rattle.line_cutter.specs.Lines.{complete_lines, unended, ends_in_return}
use Rattle.line_cutter.specs.Terminator.{terminator_of, StandsAt}

pub record Cutting : Type 0 where
  pub rule : LineRule
  -- the place of the first byte of the line that was not handed out yet
  pub start : ℕ
  -- the head of what was passed of that line, how many bytes these are, and whether the last is a carriage return
  pub head : List ℕ
  pub passed : ℕ
  pub after_return : Bool
  -- the bytes after them
  pub unread : List ℕ

-- the place after the last byte that was fed
abbrev pub fed_to : Cutting → ℕ
fed_to cutter = cutter.start + cutter.passed + length cutter.unread

-- these are the bytes that were passed of the line that is not complete; no terminator is in them
pub record HasPassed (cutter : Cutting) (bytes : List ℕ) : Type 0 where
  pub none : (place : ℕ) → ¬ (StandsAt (terminator_of cutter.rule.terminator) bytes place)
  pub head : cutter.head ≡ take cutter.rule.message_max_bytes bytes
  pub number : cutter.passed ≡ length bytes
  pub after_return : cutter.after_return ≡ ends_in_return bytes

-- the cutter was made with this rule and place, was fed these bytes and has handed out these lines: first came the bytes
-- of these lines, then the bytes that it has passed, then those that it holds
pub record HasCut (rule : LineRule) (start : ℕ) (fed : List ℕ) (given : List Line) (cutter : Cutting) : Type 0 where
  pub lined : List ℕ
  pub passed : List ℕ
  pub same_rule : cutter.rule ≡ rule
  pub spelled : fed ≡ lined ++ (passed ++ cutter.unread)
  pub lines : complete_lines rule start lined ≡ given
  pub whole : unended rule lined ≡ []
  pub place : cutter.start ≡ start + length lined
  pub passing : HasPassed cutter passed
