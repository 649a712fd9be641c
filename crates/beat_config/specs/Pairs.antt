-- Tables whose keys are field paths, as conditions have them: values, texts, patterns or bounds at these paths (Filebeat
-- reference, conditions; the forms are this project's profile).
use Rattle.std.specs.Prelude.{ℕ, ℤ, pos, List, [], ◌∷◌, ◌++◌, codes, Option, Some, None, option_map, option_and_then}
use Rattle.std.specs.List.{cons_option}
use Rattle.event_tree.specs.Keys.{set_field}
use Rattle.event_tree.specs.Value.{TreeValue, flag, int, str, FieldList}
use Rattle.event_tree.specs.declared.condition_rule.TextAt.{TextAt}
use Rattle.event_tree.specs.declared.condition_rule.Bounds.{Bounds}
use Rattle.toml.specs.Data.{Data, string, integer, boolean, Items, no_items, item, Members, no_members, member, get_member, as_str, as_integer, as_table}
use Rattle.beat_config.specs.declared.settings_error.SettingsError.{SettingsError}
use Rattle.beat_config.specs.declared.settings_error.SettingsError.TheVariants.{WrongKind, OutOfRange}
use Rattle.beat_config.specs.declared.text.Form.{Form}
use Rattle.beat_config.specs.declared.text.Form.TheVariants.{FieldPath}
use Rattle.beat_config.specs.Path.{key_path}
use Rattle.beat_config.specs.Table.{members_of, table_findings}
use Rattle.beat_config.specs.Text.{text_findings, value_findings}

-- a value that can be in `equals`: a text, a whole number or a truth value
abbrev pub scalar_of : Data → Option TreeValue
scalar_of (string text) = Some (str text)
scalar_of (integer number) = Some (int number)
scalar_of (boolean truth) = Some (flag truth)
scalar_of _ = None

abbrev pub set_scalar : List ℕ → Option TreeValue → FieldList → FieldList
set_scalar name None pairs = pairs
set_scalar name (Some value) pairs = set_field name value pairs

-- fields, and then the values of a table, each set at its key
abbrev pub scalars_after : FieldList → Members → FieldList
scalars_after pairs no_members = pairs
scalars_after pairs (member name value members) = scalars_after (set_scalar name (scalar_of value) pairs) members

abbrev pub kind_findings : List ℕ → Option TreeValue → List SettingsError
kind_findings key None = WrongKind key ∷ []
kind_findings key (Some value) = []

unfoldable pub scalar_findings : List ℕ → List ℕ → Data → List SettingsError
scalar_findings key name value = text_findings FieldPath key name ++ kind_findings key (scalar_of value)

abbrev pub scalars_findings : List ℕ → Members → List SettingsError
scalars_findings key no_members = []
scalars_findings key (member name value members) =
    scalar_findings (key_path key name) name value ++ scalars_findings key members

-- a text or a pattern at each path, without the values that are none
abbrev pub text_at : List ℕ → List ℕ → TextAt
text_at name text = record { path = name; text = text }

abbrev pub texts_at_in : Members → List TextAt
texts_at_in no_members = []
texts_at_in (member name value members) = cons_option (option_map (text_at name) (as_str value)) (texts_at_in members)

unfoldable pub text_at_findings : Form → List ℕ → List ℕ → Data → List SettingsError
text_at_findings form key name value = text_findings FieldPath key name ++ value_findings form key value

abbrev pub texts_at_findings : Form → List ℕ → Members → List SettingsError
texts_at_findings form key no_members = []
texts_at_findings form key (member name value members) =
    text_at_findings form (key_path key name) name value ++ texts_at_findings form key members

-- any whole number of 64 bits
abbrev pub integer_of : Option Data → Option ℤ
integer_of found = option_and_then as_integer found

abbrev pub number_findings : List ℕ → Option ℤ → List SettingsError
number_findings key None = WrongKind key ∷ []
number_findings key (Some number) = []

abbrev pub bound_findings : List ℕ → Option Data → List SettingsError
bound_findings key None = []
bound_findings key (Some value) = number_findings key (as_integer value)

-- a table or a list has at least one member
abbrev pub some_member_findings : List ℕ → Members → List SettingsError
some_member_findings key no_members = OutOfRange key (pos 0) ∷ []
some_member_findings key (member name value later) = []

abbrev pub some_item_findings : List ℕ → Items → List SettingsError
some_item_findings key no_items = OutOfRange key (pos 0) ∷ []
some_item_findings key (item value items) = []

abbrev pub given_findings : List ℕ → Option Members → List SettingsError
given_findings key None = []
given_findings key (Some table) = some_member_findings key table

-- the bounds at a path
abbrev pub bound_keys : List (List ℕ)
bound_keys = codes "lt" ∷ codes "lte" ∷ codes "gt" ∷ codes "gte" ∷ []

unfoldable pub bounds_at : List ℕ → Members → Bounds
bounds_at name table = record {
  path = name;
  lt = integer_of (get_member (codes "lt") table);
  lte = integer_of (get_member (codes "lte") table);
  gt = integer_of (get_member (codes "gt") table);
  gte = integer_of (get_member (codes "gte") table);
}

unfoldable pub bounds_of : List ℕ → Data → Bounds
bounds_of name value = bounds_at name (members_of value)

abbrev pub bounds_in : Members → List Bounds
bounds_in no_members = []
bounds_in (member name value members) = bounds_of name value ∷ bounds_in members

unfoldable pub bound_value_findings : List ℕ → Members → List SettingsError
bound_value_findings key table =
    bound_findings (key_path key (codes "lt")) (get_member (codes "lt") table)
    ++ (bound_findings (key_path key (codes "lte")) (get_member (codes "lte") table)
    ++ (bound_findings (key_path key (codes "gt")) (get_member (codes "gt") table)
    ++ bound_findings (key_path key (codes "gte")) (get_member (codes "gte") table)))

unfoldable pub bounds_findings : List ℕ → List ℕ → Data → List SettingsError
bounds_findings key name value =
    text_findings FieldPath key name
    ++ (table_findings key bound_keys [] value
    ++ (given_findings key (as_table value)
    ++ bound_value_findings key (members_of value)))

abbrev pub ranges_findings : List ℕ → Members → List SettingsError
ranges_findings key no_members = []
ranges_findings key (member name value members) = bounds_findings (key_path key name) name value ++ ranges_findings key members
