-- The events of a file's bytes from a place on (Filebeat reference, multiline messages; `close.reader.on_eof` and
-- `multiline.timeout` for those that are flushed): spans that adjoin, of which each is an event by rule, or is flushed
-- if it may be.
use Rattle.std.specs.Prelude.{◌≡◌, ◌⊎◌, ℕ, ◌<◌, List, [], ◌∷◌, drop}
use Rattle.wire_base.specs.Extent.{Extent}
use Rattle.event_tree.specs.declared.group_rule.GroupRule.{GroupRule}
use Rattle.event_tree.specs.declared.line_rule.LineRule.{LineRule}
use Rattle.line_cutter.specs.declared.line.Line.{Line}
use Rattle.line_cutter.specs.Lines.{complete_lines}
use Rattle.multiline_core.specs.Event.{IsNatural, IsUnended}
use Rattle.multiline_core.specs.Message.{row_end}

-- the complete lines of the bytes, from this place on
abbrev pub lines_from : LineRule → List ℕ → ℕ → List Line
lines_from lines bytes start = complete_lines lines start (drop start bytes)

-- the lines from the start that end at this place are one event by rule
pub record IsNaturalEvent (lines : LineRule) (rule : GroupRule) (bytes : List ℕ) (start end : ℕ) : Type 0 where
  pub row : List Line
  pub natural : IsNatural rule (lines_from lines bytes start) row
  pub ends : row_end start row ≡ end

-- the lines from the start that end at this place are at least one, and no event by rule ends before it
pub record IsFlushedEvent (lines : LineRule) (rule : GroupRule) (bytes : List ℕ) (start end : ℕ) : Type 0 where
  pub row : List Line
  pub open_row : IsUnended rule (lines_from lines bytes start) row
  pub ends : row_end start row ≡ end

-- the spans adjoin from the start on, and each is an event by rule, or is flushed at a place where it may be
abbrev pub IsPartition : LineRule → GroupRule → (ℕ → Type 0) → List ℕ → ℕ → List Extent → Type 0
IsPartition lines rule licensed bytes start [] = Unit {0}
IsPartition lines rule licensed bytes start (span ∷ spans) =
    (span.start ≡ start)
    × (IsNaturalEvent lines rule bytes start span.end ⊎ (IsFlushedEvent lines rule bytes start span.end × licensed span.end))
    × IsPartition lines rule licensed bytes span.end spans

-- the first span begins at this place, and each other where the one before it ended; none is empty
abbrev pub AreAdjoiningSpans : ℕ → List Extent → Type 0
AreAdjoiningSpans start [] = Unit {0}
AreAdjoiningSpans start (span ∷ spans) = (span.start ≡ start) × (start < span.end) × AreAdjoiningSpans span.end spans
