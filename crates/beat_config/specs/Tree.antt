-- A value of the settings that goes into an event: texts, whole numbers, truth values, lists and tables. A floating-point
-- number and a date are of another kind (Filebeat reference, add_fields; the kinds are this project's profile).
use Rattle.std.specs.Prelude.{ℕ, ◌+◌, List, [], ◌∷◌, ◌++◌}
use Rattle.event_tree.specs.Keys.{set_field}
use Rattle.event_tree.specs.Value.{TreeValue, null, flag, int, str, list, fields, FieldList, as_values, as_members}
use Rattle.toml.specs.Data.{Data, string, integer, float, boolean, datetime, array, table, Items, no_items, item, Members, no_members, member}
use Rattle.beat_config.specs.declared.settings_error.SettingsError.{SettingsError}
use Rattle.beat_config.specs.declared.settings_error.SettingsError.TheVariants.{WrongKind}
use Rattle.beat_config.specs.Path.{key_path, member_path}

-- the tree of a value; one of another kind is null
abbrev mutual
  pub tree_of : Data → TreeValue
  tree_of (string text) = str text
  tree_of (integer number) = int number
  tree_of (float number) = null
  tree_of (boolean truth) = flag truth
  tree_of (datetime date) = null
  tree_of (array items) = list (as_values (trees_in items))
  tree_of (table members) = fields (as_members (fields_after [] members))

  pub trees_in : Items → List TreeValue
  trees_in no_items = []
  trees_in (item value items) = tree_of value ∷ trees_in items

  -- fields, and then those of a table, each set at its key
  pub fields_after : FieldList → Members → FieldList
  fields_after pairs no_members = pairs
  fields_after pairs (member key value members) = fields_after (set_field key (tree_of value) pairs) members

abbrev mutual
  pub tree_findings : List ℕ → Data → List SettingsError
  tree_findings key (string text) = []
  tree_findings key (integer number) = []
  tree_findings key (float number) = WrongKind key ∷ []
  tree_findings key (boolean truth) = []
  tree_findings key (datetime date) = WrongKind key ∷ []
  tree_findings key (array items) = tree_item_findings key 0 items
  tree_findings key (table members) = tree_member_findings key members

  pub tree_item_findings : List ℕ → ℕ → Items → List SettingsError
  tree_item_findings key number no_items = []
  tree_item_findings key number (item value items) =
      tree_findings (member_path key number) value ++ tree_item_findings key (number + 1) items

  pub tree_member_findings : List ℕ → Members → List SettingsError
  tree_member_findings key no_members = []
  tree_member_findings key (member name value members) = tree_findings (key_path key name) value ++ tree_member_findings key members
