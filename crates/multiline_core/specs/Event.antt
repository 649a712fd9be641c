-- Which lines are one event by rule (Filebeat reference, multiline messages: `pattern`, `count`; how `flush_pattern` ends
-- an event is this project's profile).
use Rattle.std.specs.Prelude.{◌≡◌, ◌≢◌, ◌⊎◌, ℕ, Bool, true, false, List, [], ◌∷◌, ◌++◌, length, Option}
use Rattle.event_tree.specs.declared.group_rule.GroupRule.{GroupRule}
use Rattle.event_tree.specs.declared.group_rule.GroupRule.TheVariants.{Single, Count, Pattern}
use Rattle.event_tree.specs.declared.group_rule.Side.{Side}
use Rattle.event_tree.specs.declared.group_rule.Side.TheVariants.{After, Before}
use Rattle.line_cutter.specs.declared.line.Line.{Line}
use Rattle.multiline_core.specs.Continuing.{continues, flushes, AllContinue}

-- after: all lines but the first continue, and the line after them is complete, and neither continues nor flushes
pub record IsEndedByNext (pattern : List ℕ) (negate : Bool) (flush : Option (List ℕ)) (row behind : List Line) : Type 0 where
  pub first : Line
  pub others : List Line
  pub next : Line
  pub later : List Line
  pub row_is : row ≡ first ∷ others
  pub behind_is : behind ≡ next ∷ later
  pub continue : AllContinue pattern negate others
  pub starts_anew : continues pattern negate next ≡ false
  pub is_no_flush : flushes flush next ≡ false

-- before: all lines but the last continue, and the last does not
pub record IsEndedByLast (pattern : List ℕ) (negate : Bool) (row : List Line) : Type 0 where
  pub others : List Line
  pub last : Line
  pub row_is : row ≡ others ++ last ∷ []
  pub continue : AllContinue pattern negate others
  pub stops : continues pattern negate last ≡ false

-- at least two lines of which the last flushes, whether or not it continues; those between the first and the last
-- continue, and with `before` the first does, too
pub record IsEndedByFlush (pattern : List ℕ) (negate : Bool) (side : Side) (flush : Option (List ℕ)) (row : List Line) : Type 0 where
  pub first : Line
  pub between : List Line
  pub last : Line
  pub row_is : row ≡ first ∷ (between ++ last ∷ [])
  pub continue : AllContinue pattern negate between
  pub first_continues : side ≡ Before → continues pattern negate first ≡ true
  pub last_flushes : flushes flush last ≡ true

abbrev pub IsEndedByLine : List ℕ → Bool → Side → Option (List ℕ) → List Line → List Line → Type 0
IsEndedByLine pattern negate After flush row behind = IsEndedByNext pattern negate flush row behind
IsEndedByLine pattern negate Before flush row behind = IsEndedByLast pattern negate row

-- the lines of the row, with these lines after them, are an event
abbrev pub IsEvent : GroupRule → List Line → List Line → Type 0
IsEvent (Single message_max_bytes) row behind = length row ≡ 1
IsEvent (Count count_lines max_lines timeout skip_newline message_max_bytes) row behind = length row ≡ count_lines
IsEvent (Pattern pattern negate side flush max_lines timeout skip_newline message_max_bytes) row behind =
    IsEndedByLine pattern negate side flush row behind ⊎ IsEndedByFlush pattern negate side flush row

-- the row is the first lines of these, it is an event, and no shorter row of first lines is one
pub record IsNatural (rule : GroupRule) (lines row : List Line) : Type 0 where
  pub behind : List Line
  pub lines_are : lines ≡ row ++ behind
  pub event : IsEvent rule row behind
  pub shortest : (front left : List Line) → row ≡ front ++ left → left ≢ [] → ¬ (IsEvent rule front (left ++ behind))

-- the row is at least one line, and the first of these, and no event of first lines ends before it does
pub record IsUnended (rule : GroupRule) (lines row : List Line) : Type 0 where
  pub behind : List Line
  pub lines_are : lines ≡ row ++ behind
  pub some : row ≢ []
  pub none_earlier : (front left : List Line) → row ≡ front ++ left → left ≢ [] → ¬ (IsNatural rule lines front)
