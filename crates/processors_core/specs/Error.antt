-- What an error of a processor leaves (this project's profile): the tree as it was before that processor, with the
-- error's text at `error.message`. The first text is put there, and a later one follows the earlier after `; `.
-- If `error` is no map, or `error.message` is there and is no text, nothing is appended.
use Rattle.std.specs.Prelude.{ℕ, codes, List, [], ◌∷◌, ◌++◌, Option, Some, None, is_none, if◌then◌else◌}
use Rattle.event_tree.specs.Paths.{Parts, blocked_at, get_at, put_at}
use Rattle.event_tree.specs.Value.{TreeValue, str}
use Rattle.processors_core.specs.Attempt.{Attempt, Done, Failed}

abbrev pub error_path : Parts
error_path = codes "error" ∷ codes "message" ∷ []

-- the texts so far and this one, if no other value is there
abbrev pub with_text : List ℕ → Option TreeValue → Option TreeValue
with_text text None = Some (str text)
with_text text (Some (str earlier)) = Some (str (earlier ++ codes "; " ++ text))
with_text text (Some value) = None

abbrev pub put_if_some : Option TreeValue → TreeValue → TreeValue
put_if_some None tree = tree
put_if_some (Some value) tree = put_at error_path value tree

abbrev pub with_error : List ℕ → TreeValue → TreeValue
with_error text tree =
    if is_none (blocked_at error_path tree) then put_if_some (with_text text (get_at error_path tree)) tree else tree

-- the tree after an attempt, of which this was the tree before
abbrev pub settled : TreeValue → Attempt → TreeValue
settled tree (Done after) = after
settled tree (Failed text) = with_error text tree
