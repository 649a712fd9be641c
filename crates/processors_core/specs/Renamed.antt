-- `rename` (Filebeat reference, processors; what is an error is this project's profile): what is at one path is
-- moved to another, pair by pair in order. Of the tree as it is before the pair: an absent first path is an
-- error, unless missing ones are to be ignored; else a second path that is there is one; else a part of it in
-- something that is no map is one. If errors are not to fail, only such a pair is left out.
use Rattle.std.specs.Prelude.{ℕ, Bool, true, false, ◌&&◌, codes, List, [], ◌∷◌, ◌++◌, Option, Some, None, is_none, is_some, if◌then◌else◌}
use Rattle.event_tree.specs.Parts.{parts_of}
use Rattle.event_tree.specs.Paths.{blocked_at, get_at, rename_at}
use Rattle.event_tree.specs.Value.{TreeValue}
use Rattle.event_tree.specs.declared.processor_rule.Pair.{Pair}
use Rattle.processors_core.specs.Attempt.{Attempt, Done, Failed, and_then}

-- the text of the error, if there is one
abbrev pub rename_fault : Pair → TreeValue → Option (List ℕ)
rename_fault pair tree =
    if is_none (get_at (parts_of pair.from) tree) then Some (codes "rename: no field " ++ pair.from)
    else if is_some (get_at (parts_of pair.to) tree) then Some (codes "rename: field " ++ pair.to ++ codes " exists")
    else if is_some (blocked_at (parts_of pair.to) tree) then Some (codes "rename: no map at " ++ pair.to)
    else None

abbrev pub moved_or_failed : Bool → Option (List ℕ) → Pair → TreeValue → Attempt
moved_or_failed fail_on_error None pair tree = Done (rename_at (parts_of pair.from) (parts_of pair.to) tree)
moved_or_failed true (Some text) pair tree = Failed text
moved_or_failed false (Some text) pair tree = Done tree

abbrev pub pair_renamed : Bool → Bool → Pair → TreeValue → Attempt
pair_renamed ignore_missing fail_on_error pair tree =
    if ignore_missing && is_none (get_at (parts_of pair.from) tree) then Done tree
    else moved_or_failed fail_on_error (rename_fault pair tree) pair tree

abbrev pub pairs_renamed : Bool → Bool → List Pair → TreeValue → Attempt
pairs_renamed ignore_missing fail_on_error [] tree = Done tree
pairs_renamed ignore_missing fail_on_error (pair ∷ pairs) tree =
    and_then (pair_renamed ignore_missing fail_on_error pair tree) (λ after. pairs_renamed ignore_missing fail_on_error pairs after)
