-- The message of an event (Filebeat reference, multiline: `max_lines`, `skip_newline`; `message_max_bytes`): the first
-- `max_lines` heads of its lines, joined by one line feed, or by nothing with `skip_newline`, cut to `message_max_bytes`
-- bytes. The span covers all of its lines.
use Rattle.std.specs.Prelude.{ℕ, Bool, true, false, List, [], ◌∷◌, ◌++◌, length, take, map}
use Rattle.std.specs.List.{flat_map}
use Rattle.event_tree.specs.declared.group_rule.GroupRule.{GroupRule}
use Rattle.event_tree.specs.declared.group_rule.GroupRule.TheVariants.{Single, Count, Pattern}
use Rattle.line_cutter.specs.declared.line.Line.{Line}
use Rattle.multiline_core.specs.declared.group.Group.{Group}

abbrev pub limit_of : GroupRule → ℕ
limit_of (Single message_max_bytes) = message_max_bytes
limit_of (Count count_lines max_lines timeout skip_newline message_max_bytes) = message_max_bytes
limit_of (Pattern pattern negate side flush max_lines timeout skip_newline message_max_bytes) = message_max_bytes

-- an event without a rule has one line
abbrev pub max_lines_of : GroupRule → ℕ
max_lines_of (Single message_max_bytes) = 1
max_lines_of (Count count_lines max_lines timeout skip_newline message_max_bytes) = max_lines
max_lines_of (Pattern pattern negate side flush max_lines timeout skip_newline message_max_bytes) = max_lines

abbrev pub skips_newline : GroupRule → Bool
skips_newline (Single message_max_bytes) = false
skips_newline (Count count_lines max_lines timeout skip_newline message_max_bytes) = skip_newline
skips_newline (Pattern pattern negate side flush max_lines timeout skip_newline message_max_bytes) = skip_newline

abbrev pub separator : Bool → List ℕ
separator true = []
separator false = 10 ∷ []

-- the texts, joined
abbrev pub joined : Bool → List (List ℕ) → List ℕ
joined skip_newline [] = []
joined skip_newline (first ∷ others) = first ++ flat_map (λ other. separator skip_newline ++ other) others

abbrev pub message_of : GroupRule → List Line → List ℕ
message_of rule row = take (limit_of rule) (joined (skips_newline rule) (map (λ line. line.head) (take (max_lines_of rule) row)))

-- the place of the first line, or this place if there is none
abbrev pub row_start : ℕ → List Line → ℕ
row_start place [] = place
row_start place (first ∷ others) = first.span.start

-- the place after the last line, or this place if there is none
abbrev pub row_end : ℕ → List Line → ℕ
row_end place [] = place
row_end place (first ∷ others) = row_end first.span.end others

-- the event of these lines, as it is handed out
abbrev pub group_of : GroupRule → List Line → Group
group_of rule row = record {
  span = record { start = row_start 0 row; end = row_end 0 row };
  message = message_of rule row;
  lines = length row;
}
