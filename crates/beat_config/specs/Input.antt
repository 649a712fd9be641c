-- One input: what it follows, and how its files become events (Filebeat reference, filestream input, file identity and
-- multiline messages; the ranges and the defaults that the reference does not fix are this project's profile).
use Rattle.std.specs.Prelude.{ℕ, ◌+◌, ◌==◌, true, List, [], ◌∷◌, ◌++◌, map, codes, pos, Option, Some, None, if◌then◌else◌, unwrap_or, option_and_then}
use Rattle.std.specs.List.{list_any}
use Rattle.std.specs.Str.{bytes_eq}
use Rattle.event_tree.specs.declared.input_rule.InputRule.{InputRule}
use Rattle.event_tree.specs.declared.input_rule.IdentityRule.{IdentityRule}
use Rattle.event_tree.specs.declared.input_rule.IdentityRule.TheVariants.{Fingerprint, Native, Path}
use Rattle.event_tree.specs.declared.line_rule.Terminator.{Terminator}
use Rattle.event_tree.specs.declared.line_rule.Terminator.TheVariants.{Auto, LineFeed, CarriageReturnLineFeed, NullTerminator}
use Rattle.toml.specs.Data.{Data, Items, no_items, item, Members, get_member, as_array}
use Rattle.beat_config.specs.declared.settings_error.SettingsError.{SettingsError}
use Rattle.beat_config.specs.declared.settings_error.SettingsError.TheVariants.{WrongKind, BadText}
use Rattle.beat_config.specs.declared.text.Form.TheVariants.{Id, Glob, LinePattern}
use Rattle.beat_config.specs.Multiline.{group_of, group_findings}
use Rattle.beat_config.specs.Path.{key_path, member_path}
use Rattle.beat_config.specs.Single.{limits, range_findings, flag_of, flag_findings, whole_of, whole_findings, choice_of, choice_findings}
use Rattle.beat_config.specs.Table.{members_of, members_at, table_findings, table_at_findings}
use Rattle.beat_config.specs.Text.{text_of, key_findings, texts_of, texts_findings, item_count}
use Rattle.beat_config.specs.Times.{times_in, times_findings}

abbrev pub input_keys : List (List ℕ)
input_keys =
    codes "id" ∷ codes "paths" ∷ codes "file_identity" ∷ codes "fingerprint" ∷ codes "check_interval" ∷ codes "clean_removed"
    ∷ codes "close_inactive" ∷ codes "ignore_older" ∷ codes "clean_inactive" ∷ codes "line_terminator" ∷ codes "message_max_bytes"
    ∷ codes "include_lines" ∷ codes "exclude_lines" ∷ codes "multiline" ∷ []

abbrev pub identities : List (List ℕ)
identities = codes "fingerprint" ∷ codes "native" ∷ codes "path" ∷ []

abbrev pub terminators : List (List ℕ)
terminators = codes "auto" ∷ codes "line_feed" ∷ codes "carriage_return_line_feed" ∷ codes "null_terminator" ∷ []

abbrev pub terminator_at : ℕ → Terminator
terminator_at place =
    if place == 1 then LineFeed else (if place == 2 then CarriageReturnLineFeed else (if place == 3 then NullTerminator else Auto))

abbrev pub identity_at : ℕ → ℕ → ℕ → IdentityRule
identity_at place offset count = if place == 1 then Native else (if place == 2 then Path else Fingerprint offset count)

-- by what a file is known again, by the name of the identity and the table `fingerprint`
unfoldable pub identity_in : Members → Members → IdentityRule
identity_in members fingerprint =
    identity_at (choice_of identities 0 (get_member (codes "file_identity") members))
    (whole_of (limits 0 1048576) 0 (get_member (codes "offset") fingerprint))
    (whole_of (limits 64 1048576) 1024 (get_member (codes "length") fingerprint))

unfoldable pub identity_of : Members → IdentityRule
identity_of members = identity_in members (members_at (get_member (codes "fingerprint") members))

unfoldable pub identity_value_findings : List ℕ → List ℕ → Members → Members → List SettingsError
identity_value_findings path inner members fingerprint =
    choice_findings identities (key_path path (codes "file_identity")) (get_member (codes "file_identity") members)
    ++ (whole_findings (limits 0 1048576) (key_path inner (codes "offset")) (get_member (codes "offset") fingerprint)
    ++ whole_findings (limits 64 1048576) (key_path inner (codes "length")) (get_member (codes "length") fingerprint))

unfoldable pub identity_findings : List ℕ → Members → List SettingsError
identity_findings path members =
    let found = get_member (codes "fingerprint") members in
    let inner = key_path path (codes "fingerprint") in
    table_at_findings inner (codes "offset" ∷ codes "length" ∷ []) [] found ++ identity_value_findings path inner members (members_at found)

-- the id of a table, which is empty if there is none
unfoldable pub id_in : Members → List ℕ
id_in members = unwrap_or (text_of (get_member (codes "id") members)) []

abbrev pub message_max_bytes_in : Members → ℕ
message_max_bytes_in members = whole_of (limits 1 16777216) 10485760 (get_member (codes "message_max_bytes") members)

unfoldable pub input_in : Members → InputRule
input_in members = record {
  id = id_in members;
  paths = texts_of (get_member (codes "paths") members);
  file_identity = identity_of members;
  check_interval = (times_in members).check_interval;
  clean_removed = flag_of true (get_member (codes "clean_removed") members);
  close_inactive = (times_in members).close_inactive;
  ignore_older = (times_in members).ignore_older;
  clean_inactive = (times_in members).clean_inactive;
  lines = record {
    terminator = terminator_at (choice_of terminators 0 (get_member (codes "line_terminator") members));
    message_max_bytes = message_max_bytes_in members;
  };
  include_lines = texts_of (get_member (codes "include_lines") members);
  exclude_lines = texts_of (get_member (codes "exclude_lines") members);
  multiline = group_of (message_max_bytes_in members) (get_member (codes "multiline") members);
}

-- the ids of some inputs
unfoldable pub ids_of : List InputRule → List (List ℕ)
ids_of rules = map (λ rule. rule.id) rules

-- an id that an input before this one has
unfoldable pub repeated_findings : List ℕ → List (List ℕ) → Option (List ℕ) → List SettingsError
repeated_findings key ids None = []
repeated_findings key ids (Some id) = if list_any (λ earlier. bytes_eq earlier id) ids then BadText key ∷ [] else []

unfoldable pub input_value_findings : List ℕ → Members → List SettingsError
input_value_findings path members =
    key_findings Id (key_path path (codes "id")) (get_member (codes "id") members)
    ++ (texts_findings Glob (limits 1 64) (key_path path (codes "paths")) (get_member (codes "paths") members)
    ++ (identity_findings path members
    ++ (times_findings path members
    ++ (flag_findings (key_path path (codes "clean_removed")) (get_member (codes "clean_removed") members)
    ++ (choice_findings terminators (key_path path (codes "line_terminator")) (get_member (codes "line_terminator") members)
    ++ (whole_findings (limits 1 16777216) (key_path path (codes "message_max_bytes")) (get_member (codes "message_max_bytes") members)
    ++ (texts_findings LinePattern (limits 0 64) (key_path path (codes "include_lines")) (get_member (codes "include_lines") members)
    ++ (texts_findings LinePattern (limits 0 64) (key_path path (codes "exclude_lines")) (get_member (codes "exclude_lines") members)
    ++ group_findings (key_path path (codes "multiline")) (get_member (codes "multiline") members)))))))))

-- an input after inputs of these ids
unfoldable pub input_findings : List ℕ → List (List ℕ) → Data → List SettingsError
input_findings path ids value =
    table_findings path input_keys (codes "id" ∷ codes "paths" ∷ []) value
    ++ (repeated_findings (key_path path (codes "id")) ids (text_of (get_member (codes "id") (members_of value)))
    ++ input_value_findings path (members_of value))

abbrev pub inputs_in : Items → List InputRule
inputs_in no_items = []
inputs_in (item value items) = input_in (members_of value) ∷ inputs_in items

-- inputs of which the first has this number, after inputs of these ids
abbrev pub inputs_item_findings : List ℕ → ℕ → List (List ℕ) → Items → List SettingsError
inputs_item_findings key number ids no_items = []
inputs_item_findings key number ids (item value items) =
    input_findings (member_path key number) ids value
    ++ inputs_item_findings key (number + 1) (ids ++ id_in (members_of value) ∷ []) items

abbrev pub list_inputs : Option Items → List InputRule
list_inputs None = []
list_inputs (Some items) = inputs_in items

abbrev pub inputs_of : Option Data → List InputRule
inputs_of found = list_inputs (option_and_then as_array found)

abbrev pub inputs_list_findings : List ℕ → Option Items → List SettingsError
inputs_list_findings key None = WrongKind key ∷ []
inputs_list_findings key (Some items) = range_findings (limits 1 64) key (pos (item_count items)) ++ inputs_item_findings key 0 [] items

abbrev pub inputs_findings : List ℕ → Option Data → List SettingsError
inputs_findings key None = []
inputs_findings key (Some value) = inputs_list_findings key (as_array value)
