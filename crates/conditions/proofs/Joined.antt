-- Joined conditions over their lists.
use mathlib.Core.Former.{Count}
use Rattle.std.proofs.Common.{◌≡◌, Bool, not, ◌&&◌, ◌||◌, List, refl, ap, ◌∙◌}
use Rattle.std.specs.Global.{Box}
use Rattle.std.specs.List.{list_all, list_any}
use Rattle.event_tree.specs.Condition.{rules_of}
use Rattle.event_tree.specs.Value.{TreeValue}
use Rattle.event_tree.specs.declared.condition_rule.ConditionRule.{ConditionRule, And, And', Or, Or', Not, Row_of-ConditionRule, end_of-ConditionRule, more_of-ConditionRule, items-the_row-ConditionRule, items_hidden-the_row-ConditionRule-0}
use Rattle.event_tree.specs.declared.condition_rules.ConditionRules.{ConditionRules}
use Rattle.conditions.specs.Holds.{all_hold, holds, some_hold}

all_in_row : (tree : TreeValue) (n : _) (row : Row_of-ConditionRule n) →
    all_hold row tree ≡ list_all (λ rule. holds rule tree) (items-the_row-ConditionRule n row)
unfolding all_hold
all_in_row tree n end_of-ConditionRule = refl
all_in_row tree n (more_of-ConditionRule rule rules) = ap (λ (b : Bool). holds rule tree && b) (all_in_row tree _ rules)

some_in_row : (tree : TreeValue) (n : _) (row : Row_of-ConditionRule n) →
    some_hold row tree ≡ list_any (λ rule. holds rule tree) (items-the_row-ConditionRule n row)
unfolding some_hold
some_in_row tree n end_of-ConditionRule = refl
some_in_row tree n (more_of-ConditionRule rule rules) = ap (λ (b : Bool). holds rule tree || b) (some_in_row tree _ rules)

-- the row of a joined condition
abbrev row_of : ConditionRule → (n : Count) × Row_of-ConditionRule n
row_of (And' _ row) = (_, row)
row_of (Or' _ row) = (_, row)
row_of _ = (_, end_of-ConditionRule)

pub and_of_list : (rules : ConditionRules) (tree : TreeValue) → holds (And rules) tree ≡ list_all (λ rule. holds rule tree) (rules_of rules)
unfolding holds
and_of_list rules tree =
    let row = row_of (And rules) in
    all_in_row tree row.0 row.1 ∙ ap (λ (l : List ConditionRule). list_all (λ rule. holds rule tree) l) (items_hidden-the_row-ConditionRule-0 rules.rules)

pub or_of_list : (rules : ConditionRules) (tree : TreeValue) → holds (Or rules) tree ≡ list_any (λ rule. holds rule tree) (rules_of rules)
unfolding holds
or_of_list rules tree =
    let row = row_of (Or rules) in
    some_in_row tree row.0 row.1 ∙ ap (λ (l : List ConditionRule). list_any (λ rule. holds rule tree) l) (items_hidden-the_row-ConditionRule-0 rules.rules)

pub not_of_one : (inner : Box ConditionRule) (tree : TreeValue) → holds (Not inner) tree ≡ not (holds inner.value tree)
unfolding holds
not_of_one inner tree = refl
