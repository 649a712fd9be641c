-- What is at a field path of a tree, and the tree after a value is put there or taken away
-- (Filebeat reference, processors; this project's profile). A path is the list of its parts.
use Rattle.std.specs.Prelude.{◌≡◌, ℕ, suc, List, [], ◌∷◌, Option, Some, None, option_map, option_and_then, unwrap_or}
use Rattle.std.specs.Option.{option_map_or}
use Rattle.event_tree.specs.Value.{TreeValue, null, flag, int, str, list, fields, FieldList, pairs_in, as_members}
use Rattle.event_tree.specs.Keys.{find, set_field, unset_field}

-- a field path's parts
abbrev pub Parts : Type 0
Parts = List (List ℕ)

-- the fields of a map; nothing else has any
abbrev pub fields_in : TreeValue → Option FieldList
fields_in null = None
fields_in (flag b) = None
fields_in (int n) = None
fields_in (str s) = None
fields_in (list vs) = None
fields_in (fields ms) = Some (pairs_in ms)

-- the map of these fields
abbrev pub map_of : FieldList → TreeValue
map_of ps = fields (as_members ps)

-- the value of one key, if the holder is a map that has it
abbrev pub member_at : List ℕ → TreeValue → Option TreeValue
member_at key v = option_and_then (find key) (fields_in v)

-- the value at a path
abbrev pub get_at : Parts → TreeValue → Option TreeValue
get_at [] v = Some v
get_at (part ∷ parts) v = option_and_then (get_at parts) (member_at part v)

-- a part whose holder is no map; a part that its holder does not have; else what the later parts say of its value
abbrev pub blocked_by : Option (Option TreeValue) → (TreeValue → Option ℕ) → Option ℕ
blocked_by None later = Some 0
blocked_by (Some None) later = None
blocked_by (Some (Some v)) later = option_map suc (later v)

-- the place, among the parts, of the one whose holder is there and is no map
abbrev pub blocked_at : Parts → TreeValue → Option ℕ
blocked_at [] v = None
blocked_at (part ∷ parts) v = blocked_by (option_map (find part) (fields_in v)) (blocked_at parts)

-- the tree with the value at the path, and with the maps on the way that were missing
abbrev pub put_at : Parts → TreeValue → TreeValue → TreeValue
put_at [] new v = new
put_at (part ∷ parts) new v = map_of (set_field part (put_at parts new (unwrap_or (member_at part v) (map_of []))) (unwrap_or (fields_in v) []))

-- a map with other fields; anything else stays
abbrev pub with_fields : (FieldList → FieldList) → TreeValue → TreeValue
with_fields f null = null
with_fields f (flag b) = flag b
with_fields f (int n) = int n
with_fields f (str s) = str s
with_fields f (list vs) = list vs
with_fields f (fields ms) = map_of (f (pairs_in ms))

-- the fields with another value at the key, if it is there
abbrev pub with_member : List ℕ → (TreeValue → TreeValue) → FieldList → FieldList
with_member key f ps = option_map_or (λ v. set_field key (f v) ps) (find key ps) ps

-- the tree without what is at the path; a holder stays, though it may be empty then
abbrev pub remove_at : Parts → TreeValue → TreeValue
remove_at [] v = v
remove_at (part ∷ []) v = with_fields (unset_field part) v
remove_at (part ∷ next ∷ parts) v = with_fields (with_member part (remove_at (next ∷ parts))) v

-- the tree with what is at one path taken away and put at another
abbrev pub rename_at : Parts → Parts → TreeValue → TreeValue
rename_at from to v = option_map_or (λ moved. put_at to moved (remove_at from v)) (get_at from v) v

-- neither path is a front of the other: as long as their parts are the same, both go on
abbrev pub IsApart : Parts → Parts → Type 0
IsApart [] other = ⊥
IsApart (part ∷ parts) [] = ⊥
IsApart (part ∷ parts) (first ∷ others) = part ≡ first → IsApart parts others
