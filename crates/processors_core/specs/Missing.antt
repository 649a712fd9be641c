-- Which path `drop_fields` misses, determined before any is removed (this project's profile): one that is absent, or that the
-- removal of an earlier one takes away.
use Rattle.std.specs.Prelude.{ℕ, Bool, not, ◌&&◌, ◌||◌, bytes_eq, List, [], ◌∷◌, ◌++◌, Option, Some, None, is_none, if◌then◌else◌}
use Rattle.std.specs.List.{list_any, starts_with}
use Rattle.event_tree.specs.Parts.{parts_of}
use Rattle.event_tree.specs.Paths.{Parts, get_at}
use Rattle.event_tree.specs.Value.{TreeValue}
use Rattle.processors_core.specs.Dropped.{is_left}

-- the first parts of the path
abbrev pub is_front : Parts → Parts → Bool
is_front front path = starts_with bytes_eq path front

-- the removal of what is at the first path takes away what is at these parts
abbrev pub hides : List ℕ → Parts → Bool
hides path parts = not (is_left path) && is_front (parts_of path) parts

abbrev pub is_missing : List (List ℕ) → List ℕ → TreeValue → Bool
is_missing earlier path tree =
    not (is_left path) && (is_none (get_at (parts_of path) tree) || list_any (λ one. hides one (parts_of path)) earlier)

-- the first missing path, after these
abbrev pub missing_from : List (List ℕ) → List (List ℕ) → TreeValue → Option (List ℕ)
missing_from earlier [] tree = None
missing_from earlier (path ∷ paths) tree =
    if is_missing earlier path tree then Some path else missing_from (earlier ++ path ∷ []) paths tree

abbrev pub missing_of : List (List ℕ) → TreeValue → Option (List ℕ)
missing_of paths tree = missing_from [] paths tree
