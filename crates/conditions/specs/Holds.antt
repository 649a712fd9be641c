-- Whether a condition holds of an event's tree (Filebeat reference, conditions: `equals`, `contains`, `regexp`,
-- `range`, `has_fields`, `and`, `or`, `not`). Each path of a condition is asked, and all answers have to be yes. A
-- path is the text of its parts between dots.
use Rattle.std.specs.Prelude.{Bool, true, false, not, ◌&&◌, ◌||◌}
use Rattle.std.specs.List.{list_all}
use Rattle.event_tree.specs.Value.{TreeValue}
use Rattle.event_tree.specs.declared.condition_rule.ConditionRule.{ConditionRule, Equals, Contains, Regexp, Range, HasFields, And', Or', Not', Row_of-ConditionRule, end_of-ConditionRule, more_of-ConditionRule}
use Rattle.conditions.specs.Asked.{has_text, is_at, is_in_bounds, is_matched, is_same, is_there}

-- the condition holds, and all of several conditions, and some of them
unfoldable mutual
  pub holds : ConditionRule → TreeValue → Bool
  holds (Equals pairs) tree = list_all (λ pair. is_at pair.0 (is_same pair.1) tree) pairs
  holds (Contains texts) tree = list_all (λ one. is_at one.path (has_text one.text) tree) texts
  holds (Regexp patterns) tree = list_all (λ one. is_at one.path (is_matched one.text) tree) patterns
  holds (Range ranges) tree = list_all (λ bounds. is_at bounds.path (is_in_bounds bounds) tree) ranges
  holds (HasFields paths) tree = list_all (λ path. is_at path is_there tree) paths
  holds (And' shape rules) tree = all_hold rules tree
  holds (Or' shape rules) tree = some_hold rules tree
  holds (Not' shape rule) tree = not (holds rule tree)

  pub all_hold : {count : _} → Row_of-ConditionRule count → TreeValue → Bool
  all_hold end_of-ConditionRule tree = true
  all_hold (more_of-ConditionRule rule rules) tree = holds rule tree && all_hold rules tree

  pub some_hold : {count : _} → Row_of-ConditionRule count → TreeValue → Bool
  some_hold end_of-ConditionRule tree = false
  some_hold (more_of-ConditionRule rule rules) tree = holds rule tree || some_hold rules tree
