-- A condition of its form: its lists and tables have members, paths are field paths, a range has a bound, patterns are
-- patterns, and it is nested at most this many levels deep (Filebeat reference, conditions; the forms are this project's
-- profile).
use Rattle.std.specs.Prelude.{◌≡◌, ◌⊎◌, ℕ, zero, suc, ◌<◌, List, length, All, None, IsSome}
use Rattle.event_tree.specs.Condition.{rules_of}
use Rattle.event_tree.specs.Parts.{parts_of, empty_place}
use Rattle.event_tree.specs.Value.{TreeValue, null, flag, int, str, list, fields}
use Rattle.event_tree.specs.declared.condition_rule.Bounds.{Bounds}
use Rattle.event_tree.specs.declared.condition_rule.ConditionRule.{ConditionRule, out-ConditionRule}
use Rattle.event_tree.specs.declared.condition_rule.ConditionRule.TheOpen.{ConditionRule-F}
use Rattle.event_tree.specs.declared.condition_rule.TextAt.{TextAt}
use Rattle.event_tree.specs.declared.condition_rules.ConditionRules.{ConditionRules}
use Rattle.patterns.specs.Pattern.{IsTextPattern}

-- a text of nonempty parts between dots
abbrev pub IsFieldPath : List ℕ → Type 0
IsFieldPath text = empty_place (parts_of text) ≡ None

-- a text, a whole number or a truth value
abbrev pub IsScalar : TreeValue → Type 0
IsScalar null = ⊥
IsScalar (flag truth) = Unit {0}
IsScalar (int number) = Unit {0}
IsScalar (str text) = Unit {0}
IsScalar (list held) = ⊥
IsScalar (fields held) = ⊥

-- such a value at a field path
abbrev pub IsScalarAt : List ℕ × TreeValue → Type 0
IsScalarAt pair = IsFieldPath pair.0 × IsScalar pair.1

abbrev pub IsTextAt : TextAt → Type 0
IsTextAt one = IsFieldPath one.path

abbrev pub IsPatternAt : TextAt → Type 0
IsPatternAt one = IsFieldPath one.path × IsTextPattern one.text

-- at least one bound at a field path
abbrev pub AreBoundsAt : Bounds → Type 0
AreBoundsAt bounds = IsFieldPath bounds.path × (IsSome bounds.lt ⊎ (IsSome bounds.lte ⊎ (IsSome bounds.gt ⊎ IsSome bounds.gte)))

-- there is a member, and each one is so
abbrev pub AreSome : {A : Type 0} → (A → Type 0) → List A → Type 0
AreSome P members = (0 < length members) × All P members

module _ (IsHere : ConditionRule → Type 0) where
  -- one level of a condition
  abbrev pub IsBodyInRange : ConditionRule-F ConditionRule ConditionRules → Type 0
  IsBodyInRange (ConditionRule-F.Equals pairs) = AreSome IsScalarAt pairs
  IsBodyInRange (ConditionRule-F.Contains texts) = AreSome IsTextAt texts
  IsBodyInRange (ConditionRule-F.Regexp texts) = AreSome IsPatternAt texts
  IsBodyInRange (ConditionRule-F.Range ranges) = AreSome AreBoundsAt ranges
  IsBodyInRange (ConditionRule-F.HasFields paths) = AreSome IsFieldPath paths
  IsBodyInRange (ConditionRule-F.And rules) = AreSome IsHere (rules_of rules)
  IsBodyInRange (ConditionRule-F.Or rules) = AreSome IsHere (rules_of rules)
  IsBodyInRange (ConditionRule-F.Not inner) = IsHere inner.value

-- the condition is of its form, and nested at most this many levels deep
unfoldable pub IsConditionInRange : ℕ → ConditionRule → Type 0
IsConditionInRange zero rule = ⊥
IsConditionInRange (suc levels) rule = IsBodyInRange (IsConditionInRange levels) (out-ConditionRule rule)
