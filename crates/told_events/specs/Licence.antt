-- When an event that no line has ended may be flushed (Filebeat reference, `close.reader.on_eof` and multiline,
-- `timeout`; this project's profile). It ends at the last complete line up to the place where the file's end was found,
-- or up to which was read when its timeout had passed.
use Rattle.std.specs.Prelude.{◌≡◌, ◌⊎◌, ℕ, ◌+◌, ◌≤◌, List, ◌∷◌, ◌++◌, take}
use Rattle.event_tree.specs.declared.line_rule.LineRule.{LineRule}
use Rattle.file_looks.specs.EndLook.{HadReadTo, HasEndLook}
use Rattle.file_looks.specs.Segment.{Segment}
use Rattle.multiline_core.specs.Message.{row_end}
use Rattle.multiline_core.specs.Partition.{lines_from}

-- the end of the last complete line of this many of the first bytes, lines counted from the start on; the start if there is
-- none
abbrev pub whole_lines_end : LineRule → List ℕ → ℕ → ℕ → ℕ
whole_lines_end lines life start place = row_end start (lines_from lines (take place life) start)

-- the file's end was found, and the last complete line before it ends here
pub record EndsAtEndLook (lines : LineRule) (life : List ℕ) (start : ℕ) (segment : Segment) (end : ℕ) : Type 0 where
  pub place : ℕ
  pub found : HasEndLook segment place
  pub last : whole_lines_end lines life start place ≡ end

-- after some look the last complete line of what was read ended here
pub record EndsWhatWasRead (lines : LineRule) (life : List ℕ) (start : ℕ) (segment : Segment) (end : ℕ) : Type 0 where
  pub place : ℕ
  pub had_read : HadReadTo segment place
  pub last : whole_lines_end lines life start place ≡ end

-- by the looks of this segment, if the file may be ended, or if the timeout has passed
abbrev pub IsLicensed : LineRule → List ℕ → ℕ → Segment → Type 0 → Type 0 → ℕ → Type 0
IsLicensed lines life start segment MayEnd HasWaited end =
    (MayEnd × EndsAtEndLook lines life start segment end) ⊎ (HasWaited × EndsWhatWasRead lines life start segment end)

-- two of the moments, the later one after the earlier, are at least this many milliseconds apart
pub record LieApart (moments : List ℕ) (distance : ℕ) : Type 0 where
  pub before : List ℕ
  pub earlier : ℕ
  pub between : List ℕ
  pub later : ℕ
  pub behind : List ℕ
  pub are : moments ≡ before ++ earlier ∷ (between ++ later ∷ behind)
  pub apart : earlier + distance ≤ later
