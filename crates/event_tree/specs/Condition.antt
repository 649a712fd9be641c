-- The conditions that are asked together, as their list (Filebeat reference, conditions).
use Rattle.std.specs.Prelude.{List}
use Rattle.event_tree.specs.declared.condition_rule.ConditionRule.{ConditionRule}
use Rattle.event_tree.specs.declared.condition_rules.ConditionRules.{ConditionRules, out-ConditionRules}

-- the conditions that are asked together
abbrev pub rules_of : ConditionRules → List ConditionRule
rules_of rules = (out-ConditionRules rules).rules.items
