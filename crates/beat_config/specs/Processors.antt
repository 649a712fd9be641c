-- A processor: a table with exactly one key, which names it (Filebeat reference, processors; the targets' defaults and the
-- forms are this project's profile). Of two such keys the later in byte order is unknown.
use Rattle.std.specs.Prelude.{◌≡◌, ℕ, ◌+◌, pos, true, false, List, [], ◌∷◌, ◌++◌, codes, Option, Some, None, find, is_some, unwrap_or}
use Rattle.event_tree.specs.declared.condition_rule.ConditionRule.{ConditionRule}
use Rattle.event_tree.specs.declared.processor_rule.Pair.{Pair}
use Rattle.event_tree.specs.declared.processor_rule.ProcessorRule.{ProcessorRule}
use Rattle.event_tree.specs.declared.processor_rule.ProcessorRule.TheVariants as variant
use Rattle.toml.specs.Data.{Data, Items, no_items, item, Members, get_member, as_table, as_array}
use Rattle.beat_config.specs.declared.settings_error.SettingsError.{SettingsError}
use Rattle.beat_config.specs.declared.processor.ProcessorKind.{ProcessorKind}
use Rattle.beat_config.specs.declared.processor.ProcessorKind.TheVariants.{AddFields, AddTags, DropEvent, DropFields, Rename}
use Rattle.beat_config.specs.declared.settings_error.SettingsError.TheVariants.{Missing, WrongKind}
use Rattle.beat_config.specs.declared.text.Form.TheVariants.{Any, FieldPath, Target}
use Rattle.beat_config.specs.Conditions.{most_levels, condition_findings, IsCondition}
use Rattle.beat_config.specs.Each.{each_findings, AreEach}
use Rattle.beat_config.specs.Path.{key_path, member_path}
use Rattle.beat_config.specs.Single.{limits, flag_of, flag_findings, range_findings}
use Rattle.beat_config.specs.Table.{members_of, members_at, table_findings, table_at_findings, unknown_findings}
use Rattle.beat_config.specs.Text.{text_of, key_findings, texts_of, texts_findings, item_count}
use Rattle.beat_config.specs.Tree.{fields_after, tree_member_findings}

-- the kinds, in the byte order of their keys
abbrev pub kinds : List ProcessorKind
kinds = AddFields ∷ AddTags ∷ DropEvent ∷ DropFields ∷ Rename ∷ []

abbrev pub key_of : ProcessorKind → List ℕ
key_of AddFields = codes "add_fields"
key_of AddTags = codes "add_tags"
key_of DropEvent = codes "drop_event"
key_of DropFields = codes "drop_fields"
key_of Rename = codes "rename"

-- the kind of a table: the first of which it has the key
unfoldable pub kind_of : Members → Option ProcessorKind
kind_of table = find (λ kind. is_some (get_member (key_of kind) table)) kinds

-- what the table of each kind knows, and what it requires
abbrev pub known_of : ProcessorKind → List (List ℕ)
known_of AddFields = codes "fields" ∷ codes "target" ∷ codes "when" ∷ []
known_of AddTags = codes "tags" ∷ codes "target" ∷ codes "when" ∷ []
known_of DropEvent = codes "when" ∷ []
known_of DropFields = codes "fields" ∷ codes "ignore_missing" ∷ codes "when" ∷ []
known_of Rename = codes "fields" ∷ codes "ignore_missing" ∷ codes "fail_on_error" ∷ codes "when" ∷ []

abbrev pub required_of : ProcessorKind → List (List ℕ)
required_of AddFields = codes "fields" ∷ []
required_of AddTags = codes "tags" ∷ []
required_of DropEvent = codes "when" ∷ []
required_of DropFields = codes "fields" ∷ []
required_of Rename = codes "fields" ∷ []

-- the condition under which a processor runs
abbrev pub when_findings : List ℕ → Option Data → List SettingsError
when_findings key None = []
when_findings key (Some value) = condition_findings most_levels key value

abbrev pub IsWhen : Option Data → Option ConditionRule → Type 0
IsWhen None None = Unit {0}
IsWhen None (Some rule) = ⊥
IsWhen (Some value) None = ⊥
IsWhen (Some value) (Some rule) = IsCondition most_levels value rule

-- the fields that are added
abbrev pub added_findings : List ℕ → Option Members → List SettingsError
added_findings key None = WrongKind key ∷ []
added_findings key (Some table) = tree_member_findings key table

abbrev pub fields_findings : List ℕ → Option Data → List SettingsError
fields_findings key None = []
fields_findings key (Some value) = added_findings key (as_table value)

-- the paths that are renamed
abbrev pub pair_of : Data → Pair
pair_of value = record {
  from = unwrap_or (text_of (get_member (codes "from") (members_of value))) [];
  to = unwrap_or (text_of (get_member (codes "to") (members_of value))) [];
}

unfoldable pub pair_findings : List ℕ → Data → List SettingsError
pair_findings key value =
    table_findings key (codes "from" ∷ codes "to" ∷ []) (codes "from" ∷ codes "to" ∷ []) value
    ++ (key_findings FieldPath (key_path key (codes "from")) (get_member (codes "from") (members_of value))
    ++ key_findings FieldPath (key_path key (codes "to")) (get_member (codes "to") (members_of value)))

abbrev pub pairs_in : Items → List Pair
pairs_in no_items = []
pairs_in (item value items) = pair_of value ∷ pairs_in items

abbrev pub pair_item_findings : List ℕ → ℕ → Items → List SettingsError
pair_item_findings key number no_items = []
pair_item_findings key number (item value items) = pair_findings (member_path key number) value ++ pair_item_findings key (number + 1) items

abbrev pub pair_list_findings : List ℕ → Option Items → List SettingsError
pair_list_findings key None = WrongKind key ∷ []
pair_list_findings key (Some items) = pair_item_findings key 0 items

abbrev pub list_pairs : Option Items → List Pair
list_pairs None = []
list_pairs (Some items) = pairs_in items

abbrev pub pairs_of : Option Data → List Pair
pairs_of None = []
pairs_of (Some value) = list_pairs (as_array value)

abbrev pub pairs_findings : List ℕ → Option Data → List SettingsError
pairs_findings key None = []
pairs_findings key (Some value) = pair_list_findings key (as_array value)

-- what is wrong with the values of a processor's table, its condition apart
unfoldable pub value_findings : ProcessorKind → List ℕ → Members → List SettingsError
value_findings AddFields key table =
    fields_findings (key_path key (codes "fields")) (get_member (codes "fields") table)
    ++ key_findings Target (key_path key (codes "target")) (get_member (codes "target") table)
value_findings AddTags key table =
    texts_findings Any (limits 0 9223372036854775807) (key_path key (codes "tags")) (get_member (codes "tags") table)
    ++ key_findings FieldPath (key_path key (codes "target")) (get_member (codes "target") table)
value_findings DropEvent key table = []
value_findings DropFields key table =
    texts_findings FieldPath (limits 0 9223372036854775807) (key_path key (codes "fields")) (get_member (codes "fields") table)
    ++ flag_findings (key_path key (codes "ignore_missing")) (get_member (codes "ignore_missing") table)
value_findings Rename key table =
    pairs_findings (key_path key (codes "fields")) (get_member (codes "fields") table)
    ++ (flag_findings (key_path key (codes "ignore_missing")) (get_member (codes "ignore_missing") table)
    ++ flag_findings (key_path key (codes "fail_on_error")) (get_member (codes "fail_on_error") table))

-- the rule of each kind, with its condition or without one
abbrev pub IsOfKind : ProcessorKind → Members → Option ConditionRule → ProcessorRule → Type 0
IsOfKind AddFields table when rule =
    rule ≡ variant.AddFields (fields_after [] (members_at (get_member (codes "fields") table)))
    (unwrap_or (text_of (get_member (codes "target") table)) (codes "fields")) when
IsOfKind AddTags table when rule =
    rule ≡ variant.AddTags (texts_of (get_member (codes "tags") table)) (unwrap_or (text_of (get_member (codes "target") table)) (codes "tags")) when
IsOfKind DropEvent table None rule = Unit {0}
IsOfKind DropEvent table (Some when) rule = rule ≡ variant.DropEvent when
IsOfKind DropFields table when rule =
    rule ≡ variant.DropFields (texts_of (get_member (codes "fields") table)) (flag_of false (get_member (codes "ignore_missing") table)) when
IsOfKind Rename table when rule =
    rule ≡ variant.Rename (pairs_of (get_member (codes "fields") table)) (flag_of false (get_member (codes "ignore_missing") table))
    (flag_of true (get_member (codes "fail_on_error") table)) when

-- the rule of the table at the key of a kind
unfoldable pub IsProcessorIn : ProcessorKind → Members → ProcessorRule → Type 0
IsProcessorIn kind table rule =
    (when : Option ConditionRule) × IsWhen (get_member (codes "when") table) when × IsOfKind kind table when rule

unfoldable pub processor_value_findings : ProcessorKind → List ℕ → Members → List SettingsError
processor_value_findings kind key table =
    when_findings (key_path key (codes "when")) (get_member (codes "when") table) ++ value_findings kind key table

-- the rule of a processor; a table without a key of a processor has a fault, and any rule
abbrev pub IsKindIn : Members → Option ProcessorKind → ProcessorRule → Type 0
IsKindIn table None rule = Unit {0}
IsKindIn table (Some kind) rule = IsProcessorIn kind (members_at (get_member (key_of kind) table)) rule

unfoldable pub IsProcessor : Data → ProcessorRule → Type 0
IsProcessor value rule = IsKindIn (members_of value) (kind_of (members_of value)) rule

unfoldable pub of_kind_findings : List ℕ → ProcessorKind → Members → List SettingsError
of_kind_findings key kind table =
    table_at_findings (key_path key (key_of kind)) (known_of kind) (required_of kind) (get_member (key_of kind) table)
    ++ processor_value_findings kind (key_path key (key_of kind)) (members_at (get_member (key_of kind) table))

abbrev pub kind_findings : List ℕ → Members → Option ProcessorKind → List SettingsError
kind_findings key table None = unknown_findings key [] table ++ Missing (key_path key (codes "processor")) ∷ []
kind_findings key table (Some kind) =
    unknown_findings key (key_of kind ∷ []) table ++ of_kind_findings key kind table

abbrev pub as_processor_findings : List ℕ → Option Members → List SettingsError
as_processor_findings key None = WrongKind key ∷ []
as_processor_findings key (Some table) = kind_findings key table (kind_of table)

unfoldable pub processor_findings : List ℕ → Data → List SettingsError
processor_findings key value = as_processor_findings key (as_table value)

abbrev pub processor_list_findings : List ℕ → Option Items → List SettingsError
processor_list_findings key None = WrongKind key ∷ []
processor_list_findings key (Some items) = range_findings (limits 0 64) key (pos (item_count items)) ++ each_findings processor_findings key 0 items

abbrev pub processors_findings : List ℕ → Option Data → List SettingsError
processors_findings key None = []
processors_findings key (Some value) = processor_list_findings key (as_array value)

abbrev pub AreListed : Option Items → List ProcessorRule → Type 0
AreListed None rules = rules ≡ []
AreListed (Some items) rules = AreEach IsProcessor items rules

-- the processors at a key
abbrev pub AreProcessorsOf : Option Data → List ProcessorRule → Type 0
AreProcessorsOf None rules = rules ≡ []
AreProcessorsOf (Some value) rules = AreListed (as_array value) rules
