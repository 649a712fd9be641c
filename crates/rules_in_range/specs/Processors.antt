-- A processor of its form: its paths and its target are field paths, what it adds are values that settings can have, and its
-- condition is nested at most 16 deep (Filebeat reference, processors; the forms are this project's profile).
use Rattle.std.specs.Prelude.{◌≡◌, ◌⊎◌, ℕ, List, [], All, Option, IfSome}
use Rattle.event_tree.specs.Value.{TreeValue, null, flag, int, str, list, fields, Values, no_values, value, Members, no_members, member}
use Rattle.event_tree.specs.declared.condition_rule.ConditionRule.{ConditionRule}
use Rattle.event_tree.specs.declared.processor_rule.Pair.{Pair}
use Rattle.event_tree.specs.declared.processor_rule.ProcessorRule.{ProcessorRule}
use Rattle.event_tree.specs.declared.processor_rule.ProcessorRule.TheVariants.{DropEvent, DropFields, AddFields, AddTags, Rename}
use Rattle.rules_in_range.specs.Conditions.{IsFieldPath, IsConditionInRange}

-- a text, a whole number, a truth value, or a list or table of these
abbrev mutual
  pub IsSettingsValue : TreeValue → Type 0
  IsSettingsValue null = ⊥
  IsSettingsValue (flag truth) = Unit {0}
  IsSettingsValue (int number) = Unit {0}
  IsSettingsValue (str text) = Unit {0}
  IsSettingsValue (list values) = AreSettingsValues values
  IsSettingsValue (fields members) = AreSettingsMembers members

  pub AreSettingsValues : Values → Type 0
  AreSettingsValues no_values = Unit {0}
  AreSettingsValues (value first values) = IsSettingsValue first × AreSettingsValues values

  pub AreSettingsMembers : Members → Type 0
  AreSettingsMembers no_members = Unit {0}
  AreSettingsMembers (member key first members) = IsSettingsValue first × AreSettingsMembers members

-- such a value at a key
abbrev pub IsAddedPair : List ℕ × TreeValue → Type 0
IsAddedPair pair = IsSettingsValue pair.1

-- a field path, or the empty text, which stands for the whole event
abbrev pub IsTarget : List ℕ → Type 0
IsTarget text = (text ≡ []) ⊎ IsFieldPath text

-- from one field path to another
pub record IsRenaming (pair : Pair) : Type 0 where
  pub from : IsFieldPath pair.from
  pub to : IsFieldPath pair.to

-- the condition under which a processor runs, if it has one
abbrev pub IsWhenInRange : Option ConditionRule → Type 0
IsWhenInRange when = IfSome when (IsConditionInRange 16)

abbrev pub IsProcessorInRange : ProcessorRule → Type 0
IsProcessorInRange (DropEvent when) = IsConditionInRange 16 when
IsProcessorInRange (DropFields paths ignore_missing when) = All IsFieldPath paths × IsWhenInRange when
IsProcessorInRange (AddFields added target when) = All IsAddedPair added × IsTarget target × IsWhenInRange when
IsProcessorInRange (AddTags tags target when) = IsFieldPath target × IsWhenInRange when
IsProcessorInRange (Rename pairs ignore_missing fail_on_error when) = All IsRenaming pairs × IsWhenInRange when
