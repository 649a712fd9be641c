-- A text at a key, and a list of texts: the texts, and what is wrong with them (this project's profile; globs
-- by the rules of `glob_paths`, patterns by those of the regular expressions).
use Rattle.std.specs.Prelude.{ℕ, ◌+◌, suc, pos, List, [], ◌∷◌, ◌++◌, Option, Some, None, if◌then◌else◌, is_none, option_and_then}
use Rattle.std.specs.List.{cons_option}
use Rattle.event_tree.specs.Parts.{parts_of, empty_place}
use Rattle.glob_paths.specs.declared.error.GlobError.{GlobError}
use Rattle.glob_paths.specs.Fault.{fault_of}
use Rattle.patterns.specs.Pattern.{is_line_pattern, is_text_pattern}
use Rattle.toml.specs.Data.{Data, Items, no_items, item, as_str, as_array}
use Rattle.beat_config.specs.declared.settings_error.SettingsError.{SettingsError}
use Rattle.beat_config.specs.declared.single.Limits.{Limits}
use Rattle.beat_config.specs.declared.settings_error.SettingsError.TheVariants.{WrongKind, BadText, BadGlob, BadPattern}
use Rattle.beat_config.specs.declared.text.Form.{Form}
use Rattle.beat_config.specs.declared.text.Form.TheVariants.{Any, Id, Glob, LinePattern, TextPattern, FieldPath, Target}
use Rattle.beat_config.specs.Name.{is_name}
use Rattle.beat_config.specs.Path.{member_path}
use Rattle.beat_config.specs.Single.{range_findings}

abbrev pub glob_findings : List ℕ → Option GlobError → List SettingsError
glob_findings key None = []
glob_findings key (Some fault) = BadGlob key fault ∷ []

abbrev pub path_findings : List ℕ → List ℕ → List SettingsError
path_findings key text = if is_none (empty_place (parts_of text)) then [] else BadText key ∷ []

-- a field path, or the empty text, which stands for the whole event
abbrev pub target_findings : List ℕ → List ℕ → List SettingsError
target_findings key [] = []
target_findings key (byte ∷ text) = path_findings key (byte ∷ text)

-- what is wrong with a text of this form
abbrev pub text_findings : Form → List ℕ → List ℕ → List SettingsError
text_findings Any key text = []
text_findings Id key text = if is_name 64 text then [] else BadText key ∷ []
text_findings Glob key text = glob_findings key (fault_of text)
text_findings LinePattern key text = if is_line_pattern text then [] else BadPattern key ∷ []
text_findings TextPattern key text = if is_text_pattern text then [] else BadPattern key ∷ []
text_findings FieldPath key text = path_findings key text
text_findings Target key text = target_findings key text

abbrev pub found_findings : Form → List ℕ → Option (List ℕ) → List SettingsError
found_findings form key None = WrongKind key ∷ []
found_findings form key (Some text) = text_findings form key text

-- a value that is to be a text
abbrev pub value_findings : Form → List ℕ → Data → List SettingsError
value_findings form key value = found_findings form key (as_str value)

-- the text at a key, if there is one
abbrev pub text_of : Option Data → Option (List ℕ)
text_of found = option_and_then as_str found

abbrev pub key_findings : Form → List ℕ → Option Data → List SettingsError
key_findings form key None = []
key_findings form key (Some value) = value_findings form key value

abbrev pub item_count : Items → ℕ
item_count no_items = 0
item_count (item value items) = suc (item_count items)

-- the texts of a list, without the members that are none
abbrev pub texts_in : Items → List (List ℕ)
texts_in no_items = []
texts_in (item value items) = cons_option (as_str value) (texts_in items)

-- the members of a list, of which the first has this number
abbrev pub member_findings : Form → List ℕ → ℕ → Items → List SettingsError
member_findings form key number no_items = []
member_findings form key number (item value items) =
    value_findings form (member_path key number) value ++ member_findings form key (number + 1) items

abbrev pub items_findings : Form → Limits → List ℕ → Option Items → List SettingsError
items_findings form limits key None = WrongKind key ∷ []
items_findings form limits key (Some items) = range_findings limits key (pos (item_count items)) ++ member_findings form key 0 items

abbrev pub list_texts : Option Items → List (List ℕ)
list_texts None = []
list_texts (Some items) = texts_in items

-- the texts of the list at a key, of this many members
abbrev pub texts_of : Option Data → List (List ℕ)
texts_of found = list_texts (option_and_then as_array found)

abbrev pub texts_findings : Form → Limits → List ℕ → Option Data → List SettingsError
texts_findings form limits key None = []
texts_findings form limits key (Some value) = items_findings form limits key (as_array value)
