-- How lines become events: the table `multiline`, by its `type` (Filebeat reference, multiline messages; the ranges and
-- defaults are this project's profile). A `type` that is not `count` is read as `pattern`, so a key of the other type is
-- unknown.
use Rattle.std.specs.Prelude.{ℕ, Bool, false, ◌==◌, List, [], ◌∷◌, ◌++◌, codes, Option, Some, None, if◌then◌else◌, unwrap_or}
use Rattle.std.specs.Str.{bytes_eq}
use Rattle.event_tree.specs.declared.group_rule.GroupRule.{GroupRule}
use Rattle.event_tree.specs.declared.group_rule.GroupRule.TheVariants.{Single, Count, Pattern}
use Rattle.event_tree.specs.declared.group_rule.Side.{Side}
use Rattle.event_tree.specs.declared.group_rule.Side.TheVariants.{After, Before}
use Rattle.toml.specs.Data.{Data, Members, get_member}
use Rattle.beat_config.specs.declared.settings_error.SettingsError.{SettingsError}
use Rattle.beat_config.specs.declared.text.Form.TheVariants.{LinePattern}
use Rattle.beat_config.specs.Path.{key_path}
use Rattle.beat_config.specs.Single.{limits, flag_of, flag_findings, whole_of, whole_findings, duration_of, duration_findings, choice_of, choice_findings}
use Rattle.beat_config.specs.Text.{text_of, key_findings}
use Rattle.beat_config.specs.Table.{members_of, table_findings}

abbrev pub types : List (List ℕ)
types = codes "pattern" ∷ codes "count" ∷ []

abbrev pub sides : List (List ℕ)
sides = codes "after" ∷ codes "before" ∷ []

abbrev pub count_keys : List (List ℕ)
count_keys = codes "type" ∷ codes "count_lines" ∷ codes "max_lines" ∷ codes "timeout" ∷ codes "skip_newline" ∷ []

abbrev pub pattern_keys : List (List ℕ)
pattern_keys =
    codes "type" ∷ codes "pattern" ∷ codes "negate" ∷ codes "match" ∷ codes "flush_pattern" ∷ codes "max_lines" ∷ codes "timeout"
    ∷ codes "skip_newline" ∷ []

abbrev pub side_at : ℕ → Side
side_at place = if place == 1 then Before else After

-- the rule of a table of each type
unfoldable pub count_in : ℕ → Members → GroupRule
count_in message_max_bytes members =
    Count (whole_of (limits 1 1000000) 1 (get_member (codes "count_lines") members))
    (whole_of (limits 1 1000000) 500 (get_member (codes "max_lines") members))
    (duration_of (limits 1 86400000) 5000 (get_member (codes "timeout") members))
    (flag_of false (get_member (codes "skip_newline") members))
    message_max_bytes

unfoldable pub pattern_in : ℕ → Members → GroupRule
pattern_in message_max_bytes members =
    Pattern (unwrap_or (text_of (get_member (codes "pattern") members)) [])
    (flag_of false (get_member (codes "negate") members))
    (side_at (choice_of sides 0 (get_member (codes "match") members)))
    (text_of (get_member (codes "flush_pattern") members))
    (whole_of (limits 1 1000000) 500 (get_member (codes "max_lines") members))
    (duration_of (limits 1 86400000) 5000 (get_member (codes "timeout") members))
    (flag_of false (get_member (codes "skip_newline") members))
    message_max_bytes

unfoldable pub count_value_findings : List ℕ → Members → List SettingsError
count_value_findings path members =
    choice_findings types (key_path path (codes "type")) (get_member (codes "type") members)
    ++ (whole_findings (limits 1 1000000) (key_path path (codes "count_lines")) (get_member (codes "count_lines") members)
    ++ (whole_findings (limits 1 1000000) (key_path path (codes "max_lines")) (get_member (codes "max_lines") members)
    ++ (duration_findings (limits 1 86400000) (key_path path (codes "timeout")) (get_member (codes "timeout") members)
    ++ flag_findings (key_path path (codes "skip_newline")) (get_member (codes "skip_newline") members))))

unfoldable pub pattern_value_findings : List ℕ → Members → List SettingsError
pattern_value_findings path members =
    choice_findings types (key_path path (codes "type")) (get_member (codes "type") members)
    ++ (key_findings LinePattern (key_path path (codes "pattern")) (get_member (codes "pattern") members)
    ++ (flag_findings (key_path path (codes "negate")) (get_member (codes "negate") members)
    ++ (choice_findings sides (key_path path (codes "match")) (get_member (codes "match") members)
    ++ (key_findings LinePattern (key_path path (codes "flush_pattern")) (get_member (codes "flush_pattern") members)
    ++ (whole_findings (limits 1 1000000) (key_path path (codes "max_lines")) (get_member (codes "max_lines") members)
    ++ (duration_findings (limits 1 86400000) (key_path path (codes "timeout")) (get_member (codes "timeout") members)
    ++ flag_findings (key_path path (codes "skip_newline")) (get_member (codes "skip_newline") members)))))))

-- the text is `count`
abbrev pub is_count_text : Option (List ℕ) → Bool
is_count_text None = false
is_count_text (Some text) = bytes_eq text (codes "count")

unfoldable pub is_count : Data → Bool
is_count value = is_count_text (text_of (get_member (codes "type") (members_of value)))

abbrev pub group_in : ℕ → Data → GroupRule
group_in message_max_bytes value =
    if is_count value then count_in message_max_bytes (members_of value) else pattern_in message_max_bytes (members_of value)

abbrev pub count_table_findings : List ℕ → Data → List SettingsError
count_table_findings path value =
    table_findings path count_keys (codes "count_lines" ∷ []) value ++ count_value_findings path (members_of value)

abbrev pub pattern_table_findings : List ℕ → Data → List SettingsError
pattern_table_findings path value =
    table_findings path pattern_keys (codes "pattern" ∷ codes "match" ∷ []) value ++ pattern_value_findings path (members_of value)

abbrev pub group_value_findings : List ℕ → Data → List SettingsError
group_value_findings path value = if is_count value then count_table_findings path value else pattern_table_findings path value

-- the rule of a table that may be absent
unfoldable pub group_of : ℕ → Option Data → GroupRule
group_of message_max_bytes None = Single message_max_bytes
group_of message_max_bytes (Some value) = group_in message_max_bytes value

unfoldable pub group_findings : List ℕ → Option Data → List SettingsError
group_findings path None = []
group_findings path (Some value) = group_value_findings path value
