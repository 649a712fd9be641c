-- The records of a registry area: operations cut into groups, each after an open gate (this project's profile).
use Rattle.std.specs.Prelude.{ℕ, ◌-◌, ◌+◌, Bool, if◌then◌else◌, nat_le, List, [], ◌∷◌, ◌++◌, length, replicate, codes, decimal}
use Rattle.std.specs.List.{flat_map}
use Rattle.wire_base.specs.declared.row.Op.{Op}
use Rattle.registry_frame.specs.Body.{body_bytes, operation_bytes}
use Rattle.registry_log.specs.declared.area_text.TheConstants.{MAX_BODY}

-- decimal digits with leading zeros up to a width
abbrev pub padded : ℕ → ℕ → List ℕ
padded width number = replicate (width - length (decimal number)) 48 ++ decimal number

-- the open gate, the length of the body in seven digits, a space, the body and a line feed
abbrev pub record_of : List ℕ → List ℕ
record_of body = codes "{" ++ padded 7 (length body) ++ codes " " ++ body ++ codes "\n"

abbrev pub record_bytes : List Op → List ℕ
record_bytes ops = record_of (body_bytes ops)

-- their body is not too long for one record
abbrev pub fit_in_a_record : List Op → Bool
fit_in_a_record ops = nat_le (length (body_bytes ops)) MAX_BODY

-- the groups of a group and of the operations after it: the group takes the next operation if the two fit in a
-- record; else it is whole, and that operation begins the next group
abbrev pub grouped : List Op → List Op → List (List Op)
grouped group [] = group ∷ []
grouped group (op ∷ ops) = if fit_in_a_record (group ++ op ∷ []) then grouped (group ++ op ∷ []) ops else group ∷ grouped (op ∷ []) ops

-- the groups of operations, in their order; no operations make no group
abbrev pub groups : List Op → List (List Op)
groups [] = []
groups (op ∷ ops) = grouped (op ∷ []) ops

-- a record for each group
abbrev pub records_bytes : List Op → List ℕ
records_bytes ops = flat_map record_bytes (groups ops)

-- ---- for private clauses: the records that operations make after a body without its last bracket

abbrev pub records_behind : List ℕ → List Op → List ℕ
records_behind body [] = record_of (body ++ codes "]")
records_behind body (op ∷ ops) =
    if nat_le (length body + length (operation_bytes op) + 2) MAX_BODY
    then records_behind (body ++ codes "," ++ operation_bytes op) ops
    else record_of (body ++ codes "]") ++ records_behind (codes "[" ++ operation_bytes op) ops
