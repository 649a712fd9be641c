-- A condition by its levels and its table.
use Rattle.std.proofs.Common.{◌≡◌, ℕ, zero, suc, List, [], ◌∷◌, ◌++◌, Option, Some, None, refl, sym, ap, ◌∙◌, subst}
use Rattle.event_tree.specs.declared.condition_rule.ConditionRule.{ConditionRule}
use Rattle.toml.specs.Data.{Data, Members, as_table}
use Rattle.beat_config.specs.declared.settings_error.SettingsError.{SettingsError}
use Rattle.beat_config.specs.declared.settings_error.SettingsError.TheVariants.{WrongKind}
use Rattle.beat_config.specs.Conditions.{kind_of, kind_findings, table_condition, deep_findings, condition_findings, IsOfKind, IsCondition}
use Rattle.beat_config.specs.Finding.{note_all}
use Rattle.beat_config.specs.Table.{members_of, members_or_none}
use Rattle.beat_config.proofs.Chain.{then}

-- what is no table is of any rule
pub no_table : (levels : ℕ) (value : Data) (rule : ConditionRule) → as_table value ≡ None → IsCondition levels value rule
unfolding IsCondition kind_of
no_table zero value rule none = tt
no_table (suc levels) value rule none = rw none tt

-- if no level is left, there is no condition
pub no_level : (levels : ℕ) (value : Data) (rule : ConditionRule) → levels ≡ 0 → IsCondition levels value rule
unfolding IsCondition
no_level levels value rule none = subst (λ n. IsCondition n value rule) (sym none) tt

pub no_level_told : (levels : ℕ) (key : List ℕ) (value : Data) → levels ≡ 0 → condition_findings levels key value ≡ []
unfolding condition_findings
no_level_told levels key value none = subst (λ n. condition_findings n key value ≡ []) (sym none) refl

-- what is told of a condition that takes a level: its depth, and what is wrong with its table
pub told : (levels left : ℕ) (key : List ℕ) (value : Data) → levels ≡ suc left
    → condition_findings levels key value ≡ deep_findings left key ++ table_condition (condition_findings left) key (as_table value)
unfolding condition_findings
told levels left key value less =
    subst (λ n. condition_findings n key value ≡ deep_findings left key ++ table_condition (condition_findings left) key (as_table value)) (sym less) refl

pub no_table_told : (levels left : ℕ) (key : List ℕ) (value : Data) (a b c : Option SettingsError) → levels ≡ suc left → as_table value ≡ None
    → b ≡ note_all a (deep_findings left key) → c ≡ note_all b (WrongKind key ∷ []) → c ≡ note_all a (condition_findings levels key value)
no_table_told levels left key value a b c less none deep wrong =
    then a b c (deep_findings left key) (table_condition (condition_findings left) key (as_table value)) deep
    (wrong ∙ ap (λ found. note_all b (table_condition (condition_findings left) key found)) (sym none))
    ∙ ap (note_all a) (sym (told levels left key value less))

pub table_told : (levels left : ℕ) (key : List ℕ) (value : Data) (table : Members) (a b c : Option SettingsError) → levels ≡ suc left → as_table value ≡ Some table
    → b ≡ note_all a (deep_findings left key) → c ≡ note_all b (kind_findings (condition_findings left) key table (kind_of table))
    → c ≡ note_all a (condition_findings levels key value)
table_told levels left key value table a b c less found deep inner =
    then a b c (deep_findings left key) (table_condition (condition_findings left) key (as_table value)) deep
    (inner ∙ ap (λ o. note_all b (table_condition (condition_findings left) key o)) (sym found))
    ∙ ap (note_all a) (sym (told levels left key value less))

of_members : (levels : ℕ) (value : Data) (table : Members) (rule : ConditionRule) → as_table value ≡ Some table
    → IsOfKind (IsCondition levels) table (kind_of table) rule → IsOfKind (IsCondition levels) (members_of value) (kind_of (members_of value)) rule
of_members levels value table rule found h =
    let same : members_of value ≡ table = ap members_or_none found in
    subst (λ ms. IsOfKind (IsCondition levels) ms (kind_of ms) rule) (sym same) h

-- a table is looked into, with one level less
pub looked_into : (levels left : ℕ) (value : Data) (table : Members) (rule : ConditionRule) → levels ≡ suc left → as_table value ≡ Some table
    → IsOfKind (IsCondition left) table (kind_of table) rule → IsCondition levels value rule
unfolding IsCondition
looked_into levels left value table rule less found h = subst (λ n. IsCondition n value rule) (sym less) (of_members left value table rule found h)
