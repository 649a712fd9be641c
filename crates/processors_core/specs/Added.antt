-- `add_fields` (Filebeat reference, processors; what is an error, and that a key with dots is one key, are this
-- project's profile): each key of the table is put under the target, or at the top if the target is the empty
-- text. Maps are merged key by key, and every other value is replaced. A target, or a part of it, that is there and
-- is no map is an error.
use Rattle.std.specs.Prelude.{ℕ, Bool, true, ◌&&◌, codes, List, [], ◌∷◌, ◌++◌, Option, Some, None, is_none, is_some, if◌then◌else◌}
use Rattle.event_tree.specs.Keys.{find, set_field}
use Rattle.event_tree.specs.Parts.{parts_of}
use Rattle.event_tree.specs.Paths.{Parts, blocked_at, fields_in, get_at, map_of, put_at}
use Rattle.event_tree.specs.Value.{TreeValue, fields, Members, no_members, member, FieldList, pairs_in}
use Rattle.processors_core.specs.Attempt.{Attempt, Done, Failed}

-- a value over what is at its place
abbrev mutual
  pub merged : TreeValue → Option TreeValue → TreeValue
  merged (fields members) (Some (fields old)) = map_of (members_over members (pairs_in old))
  merged value old = value

  pub members_over : Members → FieldList → FieldList
  members_over no_members pairs = pairs
  members_over (member key value members) pairs = members_over members (set_field key (merged value (find key pairs)) pairs)

-- one key with its value, put below these parts
abbrev pub with_field : Parts → List ℕ × TreeValue → TreeValue → TreeValue
with_field parts pair tree = put_at (parts ++ pair.0 ∷ []) (merged pair.1 (get_at (parts ++ pair.0 ∷ []) tree)) tree

abbrev pub with_fields : Parts → FieldList → TreeValue → TreeValue
with_fields parts [] tree = tree
with_fields parts (pair ∷ pairs) tree = with_fields parts pairs (with_field parts pair tree)

-- the empty text is the event itself
abbrev pub target_parts : List ℕ → Parts
target_parts [] = []
target_parts (byte ∷ bytes) = parts_of (byte ∷ bytes)

-- nothing is there, or a map is
abbrev pub is_map_if_there : Option TreeValue → Bool
is_map_if_there None = true
is_map_if_there (Some value) = is_some (fields_in value)

-- no part before the end is in something that is no map, and the end is a map if it is there
abbrev pub takes_fields : Parts → TreeValue → Bool
takes_fields parts tree = is_none (blocked_at parts tree) && is_map_if_there (get_at parts tree)

abbrev pub fields_added : FieldList → List ℕ → TreeValue → Attempt
fields_added pairs target tree =
    if takes_fields (target_parts target) tree then Done (with_fields (target_parts target) pairs tree)
    else Failed (codes "add_fields: no map at " ++ target)
