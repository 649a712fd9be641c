-- The rules that a compiled condition asks: those that hold of exactly the trees of which it does.
use Rattle.std.specs.Prelude.{◌≡◌}
use Rattle.event_tree.specs.Value.{TreeValue}
use Rattle.event_tree.specs.declared.condition_rule.ConditionRule.{ConditionRule}
use Rattle.conditions.specs.Holds.{holds}
use Rattle.conditions.specs.Truth.{truth_of}
use Rattle.conditions.specs.declared.condition.Condition.{Condition}

abbrev pub Asks : ConditionRule → Condition → Type 0
Asks rule condition = (tree : TreeValue) → truth_of condition.node tree ≡ holds rule tree
