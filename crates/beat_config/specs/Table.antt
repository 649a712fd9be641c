-- A table and its keys: every key is known, and each required one is there. What is no table has no keys, so none of them
-- is unknown or missing (this project's profile).
use Rattle.std.specs.Prelude.{ℕ, List, [], ◌∷◌, ◌++◌, Option, Some, None, if◌then◌else◌, is_some}
use Rattle.toml.specs.Data.{Data, Members, no_members, member, get_member, as_table}
use Rattle.beat_config.specs.declared.settings_error.SettingsError.{SettingsError}
use Rattle.beat_config.specs.declared.settings_error.SettingsError.TheVariants.{Unknown, Missing, WrongKind}
use Rattle.beat_config.specs.Path.{key_path}
use Rattle.beat_config.specs.Single.{name_place}

abbrev pub unknown_findings : List ℕ → List (List ℕ) → Members → List SettingsError
unknown_findings path known no_members = []
unknown_findings path known (member key value members) =
    (if is_some (name_place known key) then [] else Unknown (key_path path key) ∷ []) ++ unknown_findings path known members

abbrev pub missing_findings : List ℕ → List (List ℕ) → Members → List SettingsError
missing_findings path [] table = []
missing_findings path (key ∷ keys) table =
    (if is_some (get_member key table) then [] else Missing (key_path path key) ∷ []) ++ missing_findings path keys table

-- the keys of a table that knows these, and requires those
abbrev pub keys_findings : List ℕ → List (List ℕ) → List (List ℕ) → Members → List SettingsError
keys_findings path known required members = unknown_findings path known members ++ missing_findings path required members

-- the members of what is to be a table; what is no table has none
abbrev pub members_or_none : Option Members → Members
members_or_none None = no_members
members_or_none (Some members) = members

abbrev pub members_of : Data → Members
members_of value = members_or_none (as_table value)

abbrev pub members_at : Option Data → Members
members_at None = no_members
members_at (Some value) = members_of value

abbrev pub as_table_findings : List ℕ → List (List ℕ) → List (List ℕ) → Option Members → List SettingsError
as_table_findings path known required None = WrongKind path ∷ []
as_table_findings path known required (Some members) = keys_findings path known required members

-- a value that is to be a table with these keys
abbrev pub table_findings : List ℕ → List (List ℕ) → List (List ℕ) → Data → List SettingsError
table_findings path known required value = as_table_findings path known required (as_table value)

abbrev pub table_at_findings : List ℕ → List (List ℕ) → List (List ℕ) → Option Data → List SettingsError
table_at_findings path known required None = []
table_at_findings path known required (Some value) = table_findings path known required value
