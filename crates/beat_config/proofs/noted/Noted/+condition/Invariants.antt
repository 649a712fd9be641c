use Rattle.std.proofs.Common.{◌≡◌, ◌+◌, ◌*◌, ◌++◌, List, drop}
use Rattle.event_tree.specs.declared.condition_rule.ConditionRule.{ConditionRule}
use Rattle.toml.specs.View.{items_view}
use Rattle.beat_config.specs.Conditions.{condition_findings, IsCondition}
use Rattle.beat_config.specs.Each.{each_findings, AreEach}
use Rattle.beat_config.specs.Finding.{seen_of, note_all}
use Rattle.beat_config.proofs.noted.Noted.+condition.Given as goal

abbrev pub decreases-condition : goal.decreases-condition
decreases-condition l = 5 * l.levels

abbrev pub decreases-condition_items : goal.decreases-condition_items
decreases-condition_items l = 5 * l.levels + 1

abbrev pub decreases-condition_list : goal.decreases-condition_list
decreases-condition_list l = 5 * l.levels + 2

abbrev pub decreases-condition_body : goal.decreases-condition_body
decreases-condition_body l = 5 * l.levels + 3

abbrev pub decreases-table_condition : goal.decreases-table_condition
decreases-table_condition l = 5 * l.levels + 4

abbrev pub invariant-condition_items-loop-number : goal.invariant-condition_items-loop-number
invariant-condition_items-loop-number l = record {
  told : note_all (seen_of l.self) (each_findings (condition_findings l.levels) l.key l.number (items_view (drop l.number l.items)))
      ≡ note_all (seen_of l.fn.self) (each_findings (condition_findings l.levels) l.key 0 (items_view l.items));
  rules : (later : List ConditionRule) → AreEach (IsCondition l.levels) (items_view (drop l.number l.items)) later
      → AreEach (IsCondition l.levels) (items_view l.items) (l.rules.items ++ later);
}
