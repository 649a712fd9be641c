-- `add_tags` (Filebeat reference, processors; what is an error is this project's profile): the tags are appended to
-- the list at the target. An absent target becomes a list. A target of any other value, a text too, is an error, and
-- so is a part of the target in something that is no map.
use Rattle.std.specs.Prelude.{ℕ, codes, List, [], ◌++◌, map, Option, Some, None, is_none, if◌then◌else◌}
use Rattle.event_tree.specs.Parts.{parts_of}
use Rattle.event_tree.specs.Paths.{Parts, blocked_at, get_at, put_at}
use Rattle.event_tree.specs.Value.{TreeValue, str, list, as_values, list_of}
use Rattle.processors_core.specs.Attempt.{Attempt, Done, Failed}

-- what is there with these after it, if it is a list or nothing
abbrev pub with_tags : List (List ℕ) → Option TreeValue → Option TreeValue
with_tags tags None = Some (list (as_values (map str tags)))
with_tags tags (Some (list values)) = Some (list (as_values (list_of values ++ map str tags)))
with_tags tags (Some value) = None

abbrev pub put_if : List ℕ → Parts → Option TreeValue → TreeValue → Attempt
put_if text parts None tree = Failed text
put_if text parts (Some value) tree = Done (put_at parts value tree)

abbrev pub tags_added : List (List ℕ) → List ℕ → TreeValue → Attempt
tags_added tags target tree =
    if is_none (blocked_at (parts_of target) tree)
    then put_if (codes "add_tags: no list at " ++ target) (parts_of target) (with_tags tags (get_at (parts_of target) tree)) tree
    else Failed (codes "add_tags: no list at " ++ target)

-- the list that is there, an empty one if nothing is
abbrev pub list_at : Option TreeValue → Option (List TreeValue)
list_at None = Some []
list_at (Some (list values)) = Some (list_of values)
list_at (Some value) = None
