-- What is asked of fields, with the paths read and the patterns compiled (Filebeat reference, conditions).
use Rattle.std.specs.Prelude.{ℕ, ℤ, Bool, true, false, ◌&&◌, int_le, int_lt, List}
use Rattle.event_tree.specs.Parts.{parts_of}
use Rattle.event_tree.specs.Paths.{get_at}
use Rattle.event_tree.specs.Value.{TreeValue, int}
use Rattle.event_tree.specs.declared.condition_rule.Bounds.{Bounds}
use Rattle.event_tree.specs.declared.condition_rule.TextAt.{TextAt}
use Rattle.conditions.specs.Asked.{passes, has_text, is_matched, is_there, keeps}
use Rattle.conditions.specs.Scalars.{scalar_of, is_same_scalar}
use Rattle.conditions.specs.declared.field_test.FieldTest.{FieldTest}
use Rattle.conditions.specs.declared.field_test.Test.{Test}
use Rattle.conditions.specs.declared.field_test.Test.TheVariants.{Same, HasText, Matched, Between, There}
use Rattle.conditions.specs.declared.limits.Limits.{Limits}

-- ---- what is asked

abbrev pub are_kept : Limits → ℤ → Bool
are_kept limits number =
    keeps (λ bound. int_lt number bound) limits.lt && (keeps (λ bound. int_le number bound) limits.lte
    && (keeps (λ bound. int_lt bound number) limits.gt && keeps (λ bound. int_le bound number) limits.gte))

abbrev pub is_in_limits : Limits → TreeValue → Bool
is_in_limits limits (int number) = are_kept limits number
is_in_limits limits value = false

abbrev pub value_passes : Test → TreeValue → Bool
value_passes (Same scalar) value = is_same_scalar scalar value
value_passes (HasText text) value = has_text text value
value_passes (Matched pattern) value = is_matched pattern value
value_passes (Between limits) value = is_in_limits limits value
value_passes There value = is_there value

-- the value at the path is there and passes
abbrev pub is_passed : FieldTest → TreeValue → Bool
is_passed test tree = passes (value_passes test.test) (get_at test.path tree)

-- ---- of which rule

abbrev pub limits_of : Bounds → Limits
limits_of bounds = record { lt = bounds.lt; lte = bounds.lte; gt = bounds.gt; gte = bounds.gte }

abbrev pub equality_test : List ℕ × TreeValue → FieldTest
equality_test pair = record { path = parts_of pair.0; test = Same (scalar_of pair.1) }

abbrev pub text_test : TextAt → FieldTest
text_test one = record { path = parts_of one.path; test = HasText one.text }

abbrev pub pattern_test : TextAt → FieldTest
pattern_test one = record { path = parts_of one.path; test = Matched one.text }

abbrev pub bounds_test : Bounds → FieldTest
bounds_test bounds = record { path = parts_of bounds.path; test = Between (limits_of bounds) }

abbrev pub presence_test : List ℕ → FieldTest
presence_test path = record { path = parts_of path; test = There }
