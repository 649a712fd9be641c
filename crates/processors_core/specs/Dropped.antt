-- `drop_fields` (Filebeat reference, processors; which paths are left, and what is an error, are this project's
-- profile): each path is removed in order. The paths `@timestamp` and `type` are left in silence. Another one that is
-- absent is an error, unless missing ones are to be ignored.
use Rattle.std.specs.Prelude.{ℕ, Bool, ◌||◌, bytes_eq, codes, List, [], ◌∷◌, ◌++◌, is_some, if◌then◌else◌}
use Rattle.event_tree.specs.Parts.{parts_of}
use Rattle.event_tree.specs.Paths.{get_at, remove_at}
use Rattle.event_tree.specs.Value.{TreeValue}
use Rattle.processors_core.specs.Attempt.{Attempt, Done, Failed, and_then}

abbrev pub is_left : List ℕ → Bool
is_left path = bytes_eq path (codes "@timestamp") || bytes_eq path (codes "type")

abbrev pub field_dropped : Bool → List ℕ → TreeValue → Attempt
field_dropped ignore_missing path tree =
    if is_left path then Done tree
    else if is_some (get_at (parts_of path) tree) then Done (remove_at (parts_of path) tree)
    else if ignore_missing then Done tree
    else Failed (codes "drop_fields: no field " ++ path)

abbrev pub fields_dropped : Bool → List (List ℕ) → TreeValue → Attempt
fields_dropped ignore_missing [] tree = Done tree
fields_dropped ignore_missing (path ∷ paths) tree =
    and_then (field_dropped ignore_missing path tree) (λ after. fields_dropped ignore_missing paths after)
