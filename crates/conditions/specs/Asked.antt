-- What a condition asks of the value at a path (Filebeat reference, conditions). If nothing is at the path, or
-- a part of it is in something that is no map, no question is answered with yes.
use Rattle.std.specs.Prelude.{ℕ, ℤ, Bool, true, false, ◌&&◌, bytes_eq, int_le, int_lt, List, Option, Some, None}
use Rattle.std.specs.Bool.{beq}
use Rattle.std.specs.List.{list_any}
use Rattle.std.specs.Ordering.{int_eq}
use Rattle.event_tree.specs.Parts.{parts_of}
use Rattle.event_tree.specs.Paths.{get_at}
use Rattle.event_tree.specs.Value.{TreeValue, flag, int, str, list, list_of}
use Rattle.event_tree.specs.declared.condition_rule.Bounds.{Bounds}
use Rattle.patterns.specs.Matching.{matches_text}
use Rattle.conditions.specs.Within.{is_within}

-- a value that is there passes the test
abbrev pub passes : (TreeValue → Bool) → Option TreeValue → Bool
passes test None = false
passes test (Some value) = test value

-- the value at the path does
abbrev pub is_at : List ℕ → (TreeValue → Bool) → TreeValue → Bool
is_at path test tree = passes test (get_at (parts_of path) tree)

-- something is there
abbrev pub is_there : TreeValue → Bool
is_there value = true

-- exactly this text, this whole number or this truth value
abbrev pub is_same : TreeValue → TreeValue → Bool
is_same (flag truth) (flag other) = beq truth other
is_same (int number) (int other) = int_eq number other
is_same (str text) (str other) = bytes_eq text other
is_same wanted value = false

-- a text that has the text within it
abbrev pub is_text_with : List ℕ → TreeValue → Bool
is_text_with text (str found) = is_within text found
is_text_with text value = false

-- such a text, or a list of which some member is one
abbrev pub has_text : List ℕ → TreeValue → Bool
has_text text (str found) = is_within text found
has_text text (list members) = list_any (is_text_with text) (list_of members)
has_text text value = false

-- a text in which the pattern matches
abbrev pub is_matched : List ℕ → TreeValue → Bool
is_matched pattern (str text) = matches_text pattern text
is_matched pattern value = false

-- a bound that is given is kept
abbrev pub keeps : (ℤ → Bool) → Option ℤ → Bool
keeps test None = true
keeps test (Some bound) = test bound

abbrev pub is_between : Bounds → ℤ → Bool
is_between bounds number =
    keeps (λ bound. int_lt number bound) bounds.lt && (keeps (λ bound. int_le number bound) bounds.lte
    && (keeps (λ bound. int_lt bound number) bounds.gt && keeps (λ bound. int_le bound number) bounds.gte))

-- a whole number within all the bounds that are given
abbrev pub is_in_bounds : Bounds → TreeValue → Bool
is_in_bounds bounds (int number) = is_between bounds number
is_in_bounds bounds value = false
