-- Worked trees and errors of processors, computed by the definitions.
use Rattle.std.proofs.Common.{◌≡◌, ℕ, pos, true, false, List, [], ◌∷◌, Some, None, codes, refl}
use Rattle.event_tree.specs.Paths.{map_of}
use Rattle.event_tree.specs.Value.{TreeValue, null, flag, int, str, list, FieldList, as_values}
use Rattle.event_tree.specs.declared.condition_rule.ConditionRule.{ConditionRule, Equals, HasFields}
use Rattle.event_tree.specs.declared.processor_rule.Pair.{Pair}
use Rattle.event_tree.specs.declared.processor_rule.ProcessorRule.{ProcessorRule}
use Rattle.event_tree.specs.declared.processor_rule.ProcessorRule.TheVariants.{DropEvent, DropFields, AddFields, AddTags, Rename}
use Rattle.conditions.specs.Holds.{holds}
use Rattle.processors_core.specs.Error.{with_error}
use Rattle.processors_core.specs.Outcome.{Dropped, Left, after_one, outcome_of}

abbrev field : List ℕ → TreeValue → FieldList
field key value = (key, value) ∷ []

abbrev error_of : List ℕ → List ℕ × TreeValue
error_of text = (codes "error", map_of (field (codes "message") (str text)))

abbrev pair : List ℕ → List ℕ → Pair
pair from to = record { from = from; to = to }

abbrev has : List ℕ → ConditionRule
has path = HasFields (path ∷ [])

-- ---- four in order: the first event is left with its error, its field and its tag, the second is dropped by the last

abbrev in_order : List ProcessorRule
in_order =
    AddTags (codes "x" ∷ []) (codes "tags") None
    ∷ Rename (pair (codes "a") (codes "b") ∷ []) false true None
    ∷ AddFields (field (codes "env") (str (codes "prod"))) (codes "fields") None
    ∷ DropEvent (Equals (field (codes "message") (str (codes "b"))))
    ∷ []

processors_in_order : outcome_of in_order (map_of (field (codes "message") (str (codes "a"))))
    ≡ Left (map_of (
    error_of (codes "rename: no field a")
    ∷ (codes "fields", map_of (field (codes "env") (str (codes "prod"))))
    ∷ (codes "message", str (codes "a"))
    ∷ (codes "tags", list (as_values (str (codes "x") ∷ [])))
    ∷ []))
unfolding holds after_one
processors_in_order = refl

dropped_by_the_fourth : outcome_of in_order (map_of (field (codes "message") (str (codes "b")))) ≡ Dropped 3
unfolding holds after_one
dropped_by_the_fourth = refl

-- ---- drop_event: numbered from 0, by the tree as the processors before it left it

numbered_from_zero : outcome_of (DropEvent (has (codes "a")) ∷ []) (map_of (field (codes "a") null)) ≡ Dropped 0
unfolding holds after_one
numbered_from_zero = refl

by_the_tree_before_it : outcome_of (DropEvent (has (codes "b")) ∷ Rename (pair (codes "a") (codes "b") ∷ []) false true None ∷ DropEvent (has (codes "b")) ∷ []) (map_of (field (codes "a") null)) ≡ Dropped 2
unfolding holds after_one
by_the_tree_before_it = refl

-- a processor whose condition does not hold does nothing, not even an error
does_not_run : outcome_of (DropFields (codes "b" ∷ []) false (Some (has (codes "b"))) ∷ []) (map_of (field (codes "a") null)) ≡ Left (map_of (field (codes "a") null))
unfolding holds after_one
does_not_run = refl

-- ---- drop_fields

dropped_in_order : after_one (DropFields (codes "a" ∷ codes "m.k" ∷ []) false None) (map_of ((codes "a", null) ∷ (codes "m", map_of (field (codes "k") null)) ∷ [])) ≡ Some (map_of (field (codes "m") (map_of [])))
unfolding after_one
dropped_in_order = refl

-- the two paths are left in silence, whether they are there or not
left_in_silence : after_one (DropFields (codes "@timestamp" ∷ codes "type" ∷ []) false None) (map_of (field (codes "@timestamp") (str (codes "t")))) ≡ Some (map_of (field (codes "@timestamp") (str (codes "t"))))
unfolding after_one
left_in_silence = refl

-- an absent path is an error, and the path before it is there again
absent_path : after_one (DropFields (codes "a" ∷ codes "b.c" ∷ []) false None) (map_of (field (codes "a") null))
    ≡ Some (map_of ((codes "a", null) ∷ error_of (codes "drop_fields: no field b.c") ∷ []))
unfolding after_one
absent_path = refl

absent_path_ignored : after_one (DropFields (codes "b" ∷ codes "a" ∷ []) true None) (map_of (field (codes "a") null)) ≡ Some (map_of [])
unfolding after_one
absent_path_ignored = refl

-- a path that was dropped a moment ago is absent
dropped_twice : after_one (DropFields (codes "a" ∷ codes "a" ∷ []) false None) (map_of (field (codes "a") null))
    ≡ Some (map_of ((codes "a", null) ∷ error_of (codes "drop_fields: no field a") ∷ []))
unfolding after_one
dropped_twice = refl

-- ---- add_fields

-- maps are merged key by key, every other value is replaced, and a key with dots is one key
merged_key_by_key : after_one (AddFields ((codes "a.b", int (pos 1)) ∷ (codes "m", map_of ((codes "k", int (pos 2)) ∷ (codes "n", map_of []) ∷ [])) ∷ []) (codes "t") None)
    (map_of (field (codes "t") (map_of (field (codes "m") (map_of ((codes "k", null) ∷ (codes "l", flag true) ∷ (codes "n", str []) ∷ []))))))
    ≡ Some (map_of (field (codes "t") (map_of (
    (codes "a.b", int (pos 1))
    ∷ (codes "m", map_of ((codes "k", int (pos 2)) ∷ (codes "l", flag true) ∷ (codes "n", map_of []) ∷ []))
    ∷ []))))
unfolding after_one
merged_key_by_key = refl

map_replaced : after_one (AddFields (field (codes "m") null) [] None) (map_of (field (codes "m") (map_of (field (codes "k") null)))) ≡ Some (map_of (field (codes "m") null))
unfolding after_one
map_replaced = refl

target_made : after_one (AddFields (field (codes "k") null) (codes "a.b") None) (map_of []) ≡ Some (map_of (field (codes "a") (map_of (field (codes "b") (map_of (field (codes "k") null))))))
unfolding after_one
target_made = refl

no_map_at_target : after_one (AddFields (field (codes "k") null) (codes "a") None) (map_of (field (codes "a") (str (codes "x"))))
    ≡ Some (map_of ((codes "a", str (codes "x")) ∷ error_of (codes "add_fields: no map at a") ∷ []))
unfolding after_one
no_map_at_target = refl

no_map_before_target : after_one (AddFields (field (codes "k") null) (codes "a.b") None) (map_of (field (codes "a") null))
    ≡ Some (map_of ((codes "a", null) ∷ error_of (codes "add_fields: no map at a.b") ∷ []))
unfolding after_one
no_map_before_target = refl

-- without a key nothing is put, and no target is made
nothing_added : after_one (AddFields [] (codes "a") None) (map_of []) ≡ Some (map_of [])
unfolding after_one
nothing_added = refl

-- ---- add_tags

tags_appended : after_one (AddTags (codes "x" ∷ codes "x" ∷ []) (codes "a.tags") None) (map_of (field (codes "a") (map_of (field (codes "tags") (list (as_values (int (pos 1) ∷ [])))))))
    ≡ Some (map_of (field (codes "a") (map_of (field (codes "tags") (list (as_values (int (pos 1) ∷ str (codes "x") ∷ str (codes "x") ∷ [])))))))
unfolding after_one
tags_appended = refl

-- an absent target becomes a list, also of no tags
no_tags : after_one (AddTags [] (codes "tags") None) (map_of []) ≡ Some (map_of (field (codes "tags") (list (as_values []))))
unfolding after_one
no_tags = refl

-- a text does not become a list
tags_text_becomes_no_list : after_one (AddTags (codes "x" ∷ []) (codes "tags") None) (map_of (field (codes "tags") (str (codes "y"))))
    ≡ Some (map_of (error_of (codes "add_tags: no list at tags") ∷ (codes "tags", str (codes "y")) ∷ []))
unfolding after_one
tags_text_becomes_no_list = refl

tags_through_a_text : after_one (AddTags (codes "x" ∷ []) (codes "a.tags") None) (map_of (field (codes "a") (str [])))
    ≡ Some (map_of ((codes "a", str []) ∷ error_of (codes "add_tags: no list at a.tags") ∷ []))
unfolding after_one
tags_through_a_text = refl

-- ---- rename

moved : after_one (Rename (pair (codes "a") (codes "m.k") ∷ pair (codes "m.k") (codes "c") ∷ []) false true None) (map_of (field (codes "a") (flag true)))
    ≡ Some (map_of ((codes "c", flag true) ∷ (codes "m", map_of []) ∷ []))
unfolding after_one
moved = refl

-- what is at the second path is not overwritten
rename_overwrites_nothing : after_one (Rename (pair (codes "a") (codes "b") ∷ []) false true None) (map_of ((codes "a", null) ∷ (codes "b", flag true) ∷ []))
    ≡ Some (map_of ((codes "a", null) ∷ (codes "b", flag true) ∷ error_of (codes "rename: field b exists") ∷ []))
unfolding after_one
rename_overwrites_nothing = refl

-- a path that is renamed into itself is there
into_itself : after_one (Rename (pair (codes "a") (codes "a") ∷ []) false true None) (map_of (field (codes "a") null))
    ≡ Some (map_of ((codes "a", null) ∷ error_of (codes "rename: field a exists") ∷ []))
unfolding after_one
into_itself = refl

-- an absent first path goes before a second one that is there
absent_goes_first : after_one (Rename (pair (codes "a") (codes "b") ∷ []) false true None) (map_of (field (codes "b") null))
    ≡ Some (map_of ((codes "b", null) ∷ error_of (codes "rename: no field a") ∷ []))
unfolding after_one
absent_goes_first = refl

no_map_on_the_way : after_one (Rename (pair (codes "a") (codes "b.c") ∷ []) false true None) (map_of ((codes "a", null) ∷ (codes "b", flag true) ∷ []))
    ≡ Some (map_of ((codes "a", null) ∷ (codes "b", flag true) ∷ error_of (codes "rename: no map at b.c") ∷ []))
unfolding after_one
no_map_on_the_way = refl

-- below itself: by the tree before the pair, in which the field is no map
below_itself : after_one (Rename (pair (codes "a") (codes "a.b") ∷ []) false true None) (map_of (field (codes "a") null))
    ≡ Some (map_of ((codes "a", null) ∷ error_of (codes "rename: no map at a.b") ∷ []))
unfolding after_one
below_itself = refl

-- an error leaves the pairs before it out, too; where errors are not to fail, that pair alone is left out, in silence
all_pairs_left_out : after_one (Rename (pair (codes "a") (codes "b") ∷ pair (codes "c") (codes "d") ∷ []) false true None) (map_of (field (codes "a") null))
    ≡ Some (map_of ((codes "a", null) ∷ error_of (codes "rename: no field c") ∷ []))
unfolding after_one
all_pairs_left_out = refl

one_pair_left_out : after_one (Rename (pair (codes "c") (codes "d") ∷ pair (codes "a") (codes "b") ∷ []) false false None) (map_of (field (codes "a") null))
    ≡ Some (map_of (field (codes "b") null))
unfolding after_one
one_pair_left_out = refl

missing_ignored : after_one (Rename (pair (codes "c") (codes "a") ∷ pair (codes "a") (codes "b") ∷ []) true true None) (map_of (field (codes "a") null))
    ≡ Some (map_of (field (codes "b") null))
unfolding after_one
missing_ignored = refl

-- ---- where the text of an error goes

-- a later one follows the earlier
error_text_follows : outcome_of (DropFields (codes "b" ∷ []) false None ∷ AddTags [] (codes "a") None ∷ []) (map_of (field (codes "a") null))
    ≡ Left (map_of ((codes "a", null) ∷ error_of (codes "drop_fields: no field b; add_tags: no list at a") ∷ []))
unfolding after_one
error_text_follows = refl

error_has_others : with_error (codes "x") (map_of (field (codes "error") (map_of (field (codes "code") null))))
    ≡ map_of (field (codes "error") (map_of ((codes "code", null) ∷ (codes "message", str (codes "x")) ∷ [])))
error_has_others = refl

error_is_no_map : with_error (codes "x") (map_of (field (codes "error") (str (codes "y")))) ≡ map_of (field (codes "error") (str (codes "y")))
error_is_no_map = refl

message_is_no_text : with_error (codes "x") (map_of (field (codes "error") (map_of (field (codes "message") (list (as_values []))))))
    ≡ map_of (field (codes "error") (map_of (field (codes "message") (list (as_values [])))))
message_is_no_text = refl

tree_is_no_map : with_error (codes "x") null ≡ null
tree_is_no_map = refl
