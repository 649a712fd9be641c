-- Worked truth values, computed by the definitions.
use Rattle.std.proofs.Common.{◌≡◌, ℕ, ℤ, pos, negsuc, Bool, true, false, ◌&&◌, List, [], ◌∷◌, Some, None, codes, refl, ap, ◌∙◌}
use Rattle.std.specs.List.{list_all, list_any}
use Rattle.regex.specs.Patterns.{in_range, in_ranges}
use Rattle.regex_hir.specs.Find.{find_str, first_from}
use Rattle.regex_hir.specs.Looks.{holds as looks_hold, holds_between}
use Rattle.regex_hir.specs.Re.{attempt}
use Rattle.regex_hir.specs.Text.{byte_before, has_bytes_at, is_boundary}
use Rattle.regex_syntax.proofs.Written.{grammar}
use Rattle.event_tree.specs.Condition.{rules_of}
use Rattle.event_tree.specs.Paths.{map_of}
use Rattle.event_tree.specs.Value.{TreeValue, null, flag, int, str, list, as_values}
use Rattle.event_tree.specs.declared.condition_rule.Bounds.{Bounds}
use Rattle.event_tree.specs.declared.condition_rule.ConditionRule.{ConditionRule, Equals, Contains, Regexp, Range, HasFields, And, Or}
use Rattle.event_tree.specs.declared.condition_rules.ConditionRules.{ConditionRules}
use Rattle.conditions.specs.Holds.{holds}
use Rattle.conditions.proofs.Joined.{and_of_list, or_of_list}

-- a text, a number, a truth value, a list with members of many kinds, a map in a map, and a null
abbrev event : TreeValue
event = map_of (
    (codes "flag", flag true)
    ∷ (codes "list", list (as_values (int (pos 5) ∷ map_of [] ∷ str (codes "warning") ∷ [])))
    ∷ (codes "log", map_of ((codes "level", str (codes "error")) ∷ []))
    ∷ (codes "none", null)
    ∷ (codes "number", int (pos 5))
    ∷ (codes "text", str (codes "a brown fox"))
    ∷ [])

abbrev equals : List ℕ → TreeValue → ConditionRule
equals path value = Equals ((path, value) ∷ [])

abbrev contains : List ℕ → List ℕ → ConditionRule
contains path text = Contains (record { path = path; text = text } ∷ [])

abbrev regexp : List ℕ → List ℕ → ConditionRule
regexp path pattern = Regexp (record { path = path; text = pattern } ∷ [])

abbrev no_bounds : List ℕ → Bounds
no_bounds path = record { path = path; lt = None; lte = None; gt = None; gte = None }

abbrev above : List ℕ → ℤ → ConditionRule
above path bound = Range (record (no_bounds path) { gt = Some bound } ∷ [])

-- ---- equals: exactly that text, number or truth value

text_equal : holds (equals (codes "log.level") (str (codes "error"))) event ≡ true
unfolding holds
text_equal = refl

text_longer : holds (equals (codes "text") (str (codes "a brown"))) event ≡ false
unfolding holds
text_longer = refl

number_equal : holds (equals (codes "number") (int (pos 5))) event ≡ true
unfolding holds
number_equal = refl

number_as_text : holds (equals (codes "number") (str (codes "5"))) event ≡ false
unfolding holds
number_as_text = refl

truth_equal : holds (equals (codes "flag") (flag true)) event ≡ true
unfolding holds
truth_equal = refl

truth_other : holds (equals (codes "flag") (flag false)) event ≡ false
unfolding holds
truth_other = refl

-- each path has to have its value
one_of_two_equal : holds (Equals ((codes "number", int (pos 5)) ∷ (codes "text", str (codes "x")) ∷ [])) event ≡ false
unfolding holds
one_of_two_equal = refl

-- ---- contains: within a text, or within a member of a list that is a text, whatever the other members are

text_has : holds (contains (codes "text") (codes "brown")) event ≡ true
unfolding holds
text_has = refl

text_has_not : holds (contains (codes "text") (codes "brownie")) event ≡ false
unfolding holds
text_has_not = refl

every_text_has_none : holds (contains (codes "text") []) event ≡ true
unfolding holds
every_text_has_none = refl

member_has : holds (contains (codes "list") (codes "warn")) event ≡ true
unfolding holds
member_has = refl

-- a member that is no text has no text within it, not even its own digits or the empty one
number_member : holds (contains (codes "list") (codes "5")) event ≡ false
unfolding holds
number_member = refl

no_text_member : holds (contains (codes "list") []) (map_of ((codes "list", list (as_values (int (pos 5) ∷ null ∷ []))) ∷ [])) ≡ false
unfolding holds
no_text_member = refl

number_has : holds (contains (codes "number") (codes "5")) event ≡ false
unfolding holds
number_has = refl

-- ---- regexp: anywhere in a text, and in nothing else

text_matched : holds (regexp (codes "text") (codes "fox$")) event ≡ true
unfolding holds grammar find_str first_from attempt looks_hold holds_between byte_before has_bytes_at is_boundary in_range in_ranges
text_matched = refl

text_not_matched : holds (regexp (codes "text") (codes "^brown")) event ≡ false
unfolding holds grammar find_str first_from attempt looks_hold holds_between byte_before has_bytes_at is_boundary in_range in_ranges
text_not_matched = refl

number_matched : holds (regexp (codes "number") (codes "5")) event ≡ false
unfolding holds
number_matched = refl

list_matched : holds (regexp (codes "list") (codes "warning")) event ≡ false
unfolding holds
list_matched = refl

-- ---- range: a whole number within all the bounds that are given

above_it : holds (above (codes "number") (pos 4)) event ≡ true
unfolding holds
above_it = refl

not_above_itself : holds (above (codes "number") (pos 5)) event ≡ false
unfolding holds
not_above_itself = refl

between : holds (Range (record { path = codes "number"; lt = Some (pos 6); lte = Some (pos 5); gt = Some (negsuc 0); gte = Some (pos 5) } ∷ [])) event ≡ true
unfolding holds
between = refl

past_one_bound : holds (Range (record { path = codes "number"; lt = Some (pos 5); lte = Some (pos 5); gt = None; gte = None } ∷ [])) event ≡ false
unfolding holds
past_one_bound = refl

-- an absent field, a path through what is no map, and what is no whole number are within no bounds
absent_field_in_range : holds (above (codes "a") (pos 1)) event ≡ false
unfolding holds
absent_field_in_range = refl

text_in_range : holds (above (codes "text") (pos 1)) event ≡ false
unfolding holds
text_in_range = refl

through_a_text : holds (above (codes "text.a") (pos 1)) event ≡ false
unfolding holds
through_a_text = refl

-- ---- has_fields: something is there, a null too

fields_there : holds (HasFields (codes "log.level" ∷ codes "none" ∷ [])) event ≡ true
unfolding holds
fields_there = refl

one_absent : holds (HasFields (codes "number" ∷ codes "log.file" ∷ [])) event ≡ false
unfolding holds
one_absent = refl

through_a_number : holds (HasFields (codes "number.a" ∷ [])) event ≡ false
unfolding holds
through_a_number = refl

-- ---- joined conditions, nested

both_hold : (rules : ConditionRules) → rules_of rules ≡ equals (codes "flag") (flag true) ∷ above (codes "number") (pos 4) ∷ [] → holds (And rules) event ≡ true
unfolding holds
both_hold rules are = and_of_list rules event ∙ ap (λ (l : List ConditionRule). list_all (λ rule. holds rule event) l) are

one_fails : (rules : ConditionRules) → rules_of rules ≡ equals (codes "flag") (flag true) ∷ above (codes "a") (pos 1) ∷ [] → holds (And rules) event ≡ false
unfolding holds
one_fails rules are = and_of_list rules event ∙ ap (λ (l : List ConditionRule). list_all (λ rule. holds rule event) l) are

one_holds : (rules : ConditionRules) → rules_of rules ≡ above (codes "a") (pos 1) ∷ equals (codes "flag") (flag true) ∷ [] → holds (Or rules) event ≡ true
unfolding holds
one_holds rules are = or_of_list rules event ∙ ap (λ (l : List ConditionRule). list_any (λ rule. holds rule event) l) are

none_holds : (rules : ConditionRules) → rules_of rules ≡ above (codes "a") (pos 1) ∷ equals (codes "flag") (flag false) ∷ [] → holds (Or rules) event ≡ false
unfolding holds
none_holds rules are = or_of_list rules event ∙ ap (λ (l : List ConditionRule). list_any (λ rule. holds rule event) l) are

-- an `or` within an `and`
nested : (outer inner : ConditionRules) → rules_of outer ≡ Or inner ∷ equals (codes "flag") (flag true) ∷ [] →
    rules_of inner ≡ above (codes "a") (pos 1) ∷ contains (codes "text") (codes "fox") ∷ [] → holds (And outer) event ≡ true
unfolding holds
nested outer inner are within =
    and_of_list outer event ∙ ap (λ (l : List ConditionRule). list_all (λ rule. holds rule event) l) are
    ∙ ap (λ (b : Bool). b && true) (or_of_list inner event ∙ ap (λ (l : List ConditionRule). list_any (λ rule. holds rule event) l) within)
