-- A condition: a table with exactly one key, nested at most 16 deep (Filebeat reference, conditions; the depth is this
-- project's profile). Of two keys of conditions the later in byte order is unknown. A condition that is nested deeper is out
-- of range, besides whatever else is wrong with it.
use Rattle.std.specs.Global.{Box}
use Rattle.std.specs.Prelude.{◌≡◌, ℕ, zero, suc, pos, nat_lt, List, [], ◌∷◌, ◌++◌, codes, Option, Some, None, find, is_some, if◌then◌else◌}
use Rattle.event_tree.specs.Condition.{rules_of}
use Rattle.event_tree.specs.declared.condition_rule.ConditionRule.{ConditionRule}
use Rattle.event_tree.specs.declared.condition_rule.ConditionRule as variant
use Rattle.event_tree.specs.declared.condition_rules.ConditionRules.{ConditionRules}
use Rattle.toml.specs.Data.{Data, Items, Members, get_member, as_table, as_array}
use Rattle.beat_config.specs.declared.settings_error.SettingsError.{SettingsError}
use Rattle.beat_config.specs.declared.condition.ConditionKind.{ConditionKind}
use Rattle.beat_config.specs.declared.condition.ConditionKind.TheVariants.{And, Contains, Equals, HasFields, Not, Or, Range, Regexp}
use Rattle.beat_config.specs.declared.settings_error.SettingsError.TheVariants.{Missing, WrongKind, OutOfRange}
use Rattle.beat_config.specs.declared.text.Form.TheVariants.{Any, TextPattern, FieldPath}
use Rattle.beat_config.specs.Each.{each_findings, AreEach}
use Rattle.beat_config.specs.Pairs.{scalars_after, scalars_findings, texts_at_in, texts_at_findings, bounds_in, ranges_findings, some_member_findings, some_item_findings}
use Rattle.beat_config.specs.Path.{key_path}
use Rattle.beat_config.specs.Table.{members_of, unknown_findings}
use Rattle.beat_config.specs.Text.{list_texts, member_findings}

-- the kinds, in the byte order of their keys
abbrev pub kinds : List ConditionKind
kinds = And ∷ Contains ∷ Equals ∷ HasFields ∷ Not ∷ Or ∷ Range ∷ Regexp ∷ []

abbrev pub key_of : ConditionKind → List ℕ
key_of And = codes "and"
key_of Contains = codes "contains"
key_of Equals = codes "equals"
key_of HasFields = codes "has_fields"
key_of Not = codes "not"
key_of Or = codes "or"
key_of Range = codes "range"
key_of Regexp = codes "regexp"

-- the kind of a table: the first of which it has the key
unfoldable pub kind_of : Members → Option ConditionKind
kind_of members = find (λ kind. is_some (get_member (key_of kind) members)) kinds

-- the value at the key of each kind
abbrev pub table_body : List ℕ → ConditionKind → Option Members → List SettingsError
table_body key kind None = WrongKind key ∷ []
table_body key Equals (Some table) = some_member_findings key table ++ scalars_findings key table
table_body key Contains (Some table) = some_member_findings key table ++ texts_at_findings Any key table
table_body key Regexp (Some table) = some_member_findings key table ++ texts_at_findings TextPattern key table
table_body key Range (Some table) = some_member_findings key table ++ ranges_findings key table
table_body key kind (Some table) = []

abbrev pub paths_findings : List ℕ → Option Items → List SettingsError
paths_findings key None = WrongKind key ∷ []
paths_findings key (Some items) = some_item_findings key items ++ member_findings FieldPath key 0 items

module _ (here : List ℕ → Data → List SettingsError) where
  abbrev pub list_findings : List ℕ → Option Items → List SettingsError
  list_findings key None = WrongKind key ∷ []
  list_findings key (Some items) = some_item_findings key items ++ each_findings here key 0 items

  abbrev pub body_findings : List ℕ → ConditionKind → Data → List SettingsError
  body_findings key And value = list_findings key (as_array value)
  body_findings key Or value = list_findings key (as_array value)
  body_findings key Not value = here key value
  body_findings key HasFields value = paths_findings key (as_array value)
  body_findings key kind value = table_body key kind (as_table value)

  abbrev pub found_findings : List ℕ → ConditionKind → Option Data → List SettingsError
  found_findings key kind None = []
  found_findings key kind (Some value) = body_findings key kind value

  abbrev pub kind_findings : List ℕ → Members → Option ConditionKind → List SettingsError
  kind_findings key table None = unknown_findings key [] table ++ Missing (key_path key (codes "condition")) ∷ []
  kind_findings key table (Some kind) =
      unknown_findings key (key_of kind ∷ []) table
      ++ found_findings (key_path key (key_of kind)) kind (get_member (key_of kind) table)

  abbrev pub table_condition : List ℕ → Option Members → List SettingsError
  table_condition key None = WrongKind key ∷ []
  table_condition key (Some table) = kind_findings key table (kind_of table)

-- the levels that a document can have: at most 80 by a header, and at most 80 below it
abbrev pub most_levels : ℕ
most_levels = 160

-- if fewer are left below a condition, it is nested more than 16 deep
abbrev pub levels_below_sixteen : ℕ
levels_below_sixteen = 144

unfoldable pub deep_findings : ℕ → List ℕ → List SettingsError
deep_findings levels key = if nat_lt levels levels_below_sixteen then OutOfRange key (pos 17) ∷ [] else []

-- what is wrong with a condition that takes one of these levels
unfoldable pub condition_findings : ℕ → List ℕ → Data → List SettingsError
condition_findings zero key value = []
condition_findings (suc levels) key value =
    deep_findings levels key ++ table_condition (condition_findings levels) key (as_table value)

module _ (IsHere : Data → ConditionRule → Type 0) where
  abbrev pub AreListed : Option Items → List ConditionRule → Type 0
  AreListed None rules = Unit {0}
  AreListed (Some items) rules = AreEach IsHere items rules

  -- the rule is that of the value at the key of its kind
  abbrev pub IsBody : ConditionKind → Data → ConditionRule → Type 0
  IsBody And value rule = (rules : ConditionRules) × (rule ≡ variant.And rules) × AreListed (as_array value) (rules_of rules)
  IsBody Or value rule = (rules : ConditionRules) × (rule ≡ variant.Or rules) × AreListed (as_array value) (rules_of rules)
  IsBody Not value rule = (inner : Box ConditionRule) × (rule ≡ variant.Not inner) × IsHere value inner.value
  IsBody HasFields value rule = rule ≡ variant.HasFields (list_texts (as_array value))
  IsBody Equals value rule = rule ≡ variant.Equals (scalars_after [] (members_of value))
  IsBody Contains value rule = rule ≡ variant.Contains (texts_at_in (members_of value))
  IsBody Regexp value rule = rule ≡ variant.Regexp (texts_at_in (members_of value))
  IsBody Range value rule = rule ≡ variant.Range (bounds_in (members_of value))

  abbrev pub IsFound : ConditionKind → Option Data → ConditionRule → Type 0
  IsFound kind None rule = Unit {0}
  IsFound kind (Some value) rule = IsBody kind value rule

  -- a table without a key of a condition has a fault, and any rule
  abbrev pub IsOfKind : Members → Option ConditionKind → ConditionRule → Type 0
  IsOfKind table None rule = Unit {0}
  IsOfKind table (Some kind) rule = IsFound kind (get_member (key_of kind) table) rule

-- the rule is that of a condition that takes one of these levels
unfoldable pub IsCondition : ℕ → Data → ConditionRule → Type 0
IsCondition zero value rule = Unit {0}
IsCondition (suc levels) value rule = IsOfKind (IsCondition levels) (members_of value) (kind_of (members_of value)) rule
