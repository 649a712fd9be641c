-- What a grouper stands for (this project's profile): the lines that it was given since the last event ended. It keeps
-- their message, cut, their places and their number, not the lines.
use Rattle.std.specs.Prelude.{◌≡◌, ℕ, ◌-◌, ◌<◌, ◌≤◌, Bool, true, false, List, [], ◌∷◌, ◌++◌, length, Option, Some, None, IsSomeAnd}
use Rattle.std.specs.List.{AllByRecursion}
use Rattle.wire_base.specs.declared.numbers.Moment.{Moment}
use Rattle.event_tree.specs.declared.group_rule.GroupRule.{GroupRule}
use Rattle.event_tree.specs.declared.group_rule.GroupRule.TheVariants.{Single, Count, Pattern}
use Rattle.event_tree.specs.declared.group_rule.Side.{Side}
use Rattle.event_tree.specs.declared.group_rule.Side.TheVariants.{After, Before}
use Rattle.line_cutter.specs.declared.line.Line.{Line}
use Rattle.multiline_core.specs.declared.group.Group.{Group}
use Rattle.multiline_core.specs.Continuing.{continues, flushes}
use Rattle.multiline_core.specs.Event.{IsEvent, IsNatural, IsUnended}
use Rattle.multiline_core.specs.Message.{message_of, row_start, row_end, group_of}
use Rattle.multiline_core.specs.Rule.{IsGroupRule, timeout_of}

-- what is kept of the lines of an event that has not ended
pub record Gathered : Type 0 where
  pub start : ℕ
  pub end : ℕ
  pub lines : ℕ
  pub message : List ℕ
  -- when the last line was given
  pub read_at : Moment

pub record Grouping : Type 0 where
  pub rule : GroupRule
  pub gathered : Option Gathered

-- what is kept of these lines, of which the last was given at this moment
abbrev pub gathered_of : GroupRule → List Line → Moment → Option Gathered
gathered_of rule [] at = None
gathered_of rule (first ∷ others) at = Some record {
  start = row_start 0 (first ∷ others);
  end = row_end 0 (first ∷ others);
  lines = length (first ∷ others);
  message = message_of rule (first ∷ others);
  read_at = at;
}

-- the lines continue, and none flushes
abbrev pub AllGoOn : List ℕ → Bool → Option (List ℕ) → List Line → Type 0
AllGoOn pattern negate flush lines =
    AllByRecursion (λ line. (continues pattern negate line ≡ true) × (flushes flush line ≡ false)) lines

abbrev pub BeginEvent : List ℕ → Bool → Side → Option (List ℕ) → List Line → Type 0
BeginEvent pattern negate side flush [] = Unit {0}
BeginEvent pattern negate After flush (first ∷ others) = AllGoOn pattern negate flush others
BeginEvent pattern negate Before flush (first ∷ others) =
    (continues pattern negate first ≡ true) × AllGoOn pattern negate flush others

-- an event may have these lines and go on: without a rule there are none, by count they are too few, and by pattern each
-- goes on, the first one only with `before`
abbrev pub MayGoOn : GroupRule → List Line → Type 0
MayGoOn (Single message_max_bytes) row = row ≡ []
MayGoOn (Count count_lines max_lines timeout skip_newline message_max_bytes) row = length row < count_lines
MayGoOn (Pattern pattern negate side flush max_lines timeout skip_newline message_max_bytes) row =
    BeginEvent pattern negate side flush row

-- the grouper was made for this rule, which the settings may have; since the last event ended it was given these lines,
-- the last of them at this moment
pub record Gathers (rule : GroupRule) (row : List Line) (at : Moment) (grouper : Grouping) : Type 0 where
  pub same_rule : grouper.rule ≡ rule
  pub in_range : IsGroupRule rule
  pub goes_on : MayGoOn rule row
  pub kept : grouper.gathered ≡ gathered_of rule row at

-- no first lines of these are an event, all of them included
abbrev pub IsOpen : GroupRule → List Line → Type 0
IsOpen rule row = (front left : List Line) → row ≡ front ++ left → ¬ (IsEvent rule front left)

-- of the lines with one more the first are an event by rule, and the others are kept
pub record Closes (rule : GroupRule) (row : List Line) (line : Line) (now : Moment) (after : Grouping) (group : Group) : Type 0 where
  pub closed : List Line
  pub left : List Line
  pub split : row ++ line ∷ [] ≡ closed ++ left
  pub natural : IsNatural rule (row ++ line ∷ []) closed
  pub same_group : group ≡ group_of rule closed
  pub gathers : Gathers rule left now after

-- the row is at least one line, and is the first of these whatever lines follow it, and no event ends before it does
abbrev pub IsFlushable : GroupRule → List Line → Type 0
IsFlushable rule row = (later : List Line) → IsUnended rule (row ++ later) row

-- the event that waits for lines is due: its timeout has passed since its last line was given
abbrev pub IsDue : Grouping → Moment → Type 0
IsDue grouper now = IsSomeAnd grouper.gathered (λ gathered. timeout_of grouper.rule ≤ now.0 - gathered.read_at.0)
