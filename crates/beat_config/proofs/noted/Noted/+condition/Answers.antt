use Rattle.std.proofs.Common.{◌≡◌, ◌+◌, ◌-◌, ◌∷◌, [], Some, None, drop, sym, ap, ◌∙◌, subst, arith}
use Rattle.toml.specs.Data.{item, as_table, as_array}
use Rattle.toml.specs.View.{view, items_view, table_view}
use Rattle.toml.proofs.Views.{items_view-drop}
use Rattle.beat_config.specs.declared.settings_error.SettingsError.TheVariants.{WrongKind}
use Rattle.beat_config.specs.Conditions.{condition_findings, IsCondition, AreListed}
use Rattle.beat_config.specs.Finding.{seen_of, note_all}
use Rattle.beat_config.specs.Path.{member_path}
use Rattle.beat_config.proofs.Conditions.{no_level, no_level_told, no_table, no_table_told, looked_into, table_told}
use Rattle.beat_config.proofs.Each.{each_told, each_more, each_all, none_left}
use Rattle.beat_config.proofs.noted.Noted.+condition.Goals as goal

pub condition-returns-then-levels-eq0-clause-value : goal.condition-returns-then-levels-eq0-clause-value
condition-returns-then-levels-eq0-clause-value t c =
    no_level c.args.levels (view c.args.value.now) c.no_condition.result c.if-levels-eq0.true

pub condition-returns-then-levels-eq0-clause-findings : goal.condition-returns-then-levels-eq0-clause-findings
unfolding note_all
condition-returns-then-levels-eq0-clause-findings t c =
    sym (ap (note_all (seen_of c.args.self.now)) (no_level_told c.args.levels c.args.key.now (view c.args.value.now) c.if-levels-eq0.true))

pub condition-returns-in_default-clause-value : goal.condition-returns-in_default-clause-value
condition-returns-in_default-clause-value t c =
    let none : as_table (view c.args.value.now) ≡ None = sym c.in_default.ensures in
    no_table c.args.levels (view c.args.value.now) c.no_condition-in_default.result none

pub condition-returns-in_default-clause-findings : goal.condition-returns-in_default-clause-findings
condition-returns-in_default-clause-findings t c =
    let none : as_table (view c.args.value.now) ≡ None = sym c.in_default.ensures in
    let wrong = c.fault.ensures ∙ ap (λ k. note_all (seen_of c.check_depth.new.self) (WrongKind k ∷ [])) c.in_ok-key.ensures in
    no_table_told c.args.levels (c.args.levels - 1) c.args.key.now (view c.args.value.now) _ _ _ (omega arith) none c.in_ok-check_depth.ensures wrong

pub condition-returns-clause-value : goal.condition-returns-clause-value
condition-returns-clause-value t c =
    let found : as_table (view c.args.value.now) ≡ Some (table_view c.in-Some.table.now) = sym c.in-Some.ensures in
    looked_into c.args.levels (c.args.levels - 1) (view c.args.value.now) (table_view c.in-Some.table.now) c.in_ok-rule.rule
    (omega arith) found c.in_ok-rule.ensures.value

pub condition-returns-clause-findings : goal.condition-returns-clause-findings
condition-returns-clause-findings t c =
    let found : as_table (view c.args.value.now) ≡ Some (table_view c.in-Some.table.now) = sym c.in-Some.ensures in
    table_told c.args.levels (c.args.levels - 1) c.args.key.now (view c.args.value.now) (table_view c.in-Some.table.now) _ _ _
    (omega arith) found c.in_ok-check_depth.ensures c.in_ok-rule.ensures.findings

pub condition_items-loop-number-preserved : goal.condition_items-loop-number-preserved
condition_items-loop-number-preserved t c =
    let l = c.loop-number in
    let key = c.args.key.now in
    let items = c.args.items.now in
    let here = condition_findings c.args.levels in
    let value = view c.index-items-number.result in
    let rest = items_view (drop (l.number + 1) items) in
    let left = items_view (drop l.number items) in
    let split : left ≡ item value rest =
    items_view-drop items l.number c.index-items-number.result c.loop-number-test.true
    ∙ ap (λ v. item (view v) rest) (sym c.index-items-number.is) in
    let named : c.in_ok-key.key ≡ member_path key l.number = c.in_ok-key.ensures ∙ ap (λ k. member_path k l.number) c.as_str.ensures in
    let first : seen_of c.condition.new.self ≡ note_all (seen_of l.self) (here (member_path key l.number) value) =
    c.in_ok-rule.ensures.findings ∙ ap (λ k. note_all (seen_of l.self) (here k value)) named in
    record {
      told = each_told here key l.number value rest left _ _ first split ∙ l.invariant.told;
      rules = λ later h.
          rw c.in_ok-push.ensures.items
          (each_more (IsCondition c.args.levels) left (items_view items) rest value l.rules.items c.in_ok-rule.rule split l.invariant.rules c.in_ok-rule.ensures.value later h);
    }

pub condition_items-returns-clause-value : goal.condition_items-returns-clause-value
condition_items-returns-clause-value t c =
    each_all (IsCondition c.args.levels) (items_view (drop c.loop-number.number c.args.items.now)) (items_view c.args.items.now) c.loop-number.rules.items
    (none_left c.args.items.now c.loop-number.number (omega arith)) c.loop-number.invariant.rules

pub condition_body-returns-in_ok-rules-in-And-clause-value : goal.condition_body-returns-in_ok-rules-in-And-clause-value
condition_body-returns-in_ok-rules-in-And-clause-value t c =
    let made = c.and_rule.ensures in
    rw c.in-And.is (made.0, made.1, subst (λ rs. AreListed (IsCondition c.args.levels) (as_array (view c.args.value.now)) rs) (sym made.2) c.in_ok-rules-in-And.ensures.value)

pub condition_body-returns-in_ok-others-in-Or-clause-value : goal.condition_body-returns-in_ok-others-in-Or-clause-value
condition_body-returns-in_ok-others-in-Or-clause-value t c =
    let made = c.or_rule.ensures in
    rw c.in-Or.is (made.0, made.1, subst (λ rs. AreListed (IsCondition c.args.levels) (as_array (view c.args.value.now)) rs) (sym made.2) c.in_ok-others-in-Or.ensures.value)

pub condition_body-returns-in_ok-made-in-Not-clause-value : goal.condition_body-returns-in_ok-made-in-Not-clause-value
condition_body-returns-in_ok-made-in-Not-clause-value t c =
    let made = c.in_ok-made-in-Not.ensures in
    rw c.in-Not.is (made.0, made.1, subst (λ rule. IsCondition c.args.levels (view c.args.value.now) rule) (sym made.2) c.in_ok-rule-in-Not.ensures.value)
