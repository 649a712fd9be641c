-- The body of a registry record: the compact JSON list of its operations (RFC 8259). The fields of an operation, in byte
-- order of their names, and the escapes are this project's profile.
use Rattle.std.specs.Prelude.{ℕ, List, [], ◌++◌, ◌==◌, if◌then◌else◌, codes, decimal}
use Rattle.std.specs.List.{join_by}
use Rattle.event_json.specs.Json.{quoted}
use Rattle.wire_base.specs.declared.row.Op.{Op}
use Rattle.wire_base.specs.declared.row.Op.TheVariants.{Set, Remove}

-- the first field, with a row's moment of change; there is none if the moment is 0
abbrev pub moment_bytes : ℕ → List ℕ
moment_bytes moment = if moment == 0 then [] else codes "\"changed\":" ++ decimal moment ++ codes ","

-- the one spelling of an operation
abbrev pub operation_bytes : Op → List ℕ
operation_bytes (Set row) =
    codes "{" ++ moment_bytes row.changed.0
    ++ codes "\"epoch\":" ++ decimal row.epoch.0
    ++ codes ",\"key\":" ++ quoted row.key
    ++ codes ",\"offset\":" ++ decimal row.offset
    ++ codes ",\"op\":\"set\",\"path\":" ++ quoted row.path
    ++ codes "}"
operation_bytes (Remove key) = codes "{\"key\":" ++ quoted key ++ codes ",\"op\":\"remove\"}"

-- the operations in their order, with commas between them
abbrev pub body_bytes : List Op → List ℕ
body_bytes ops = codes "[" ++ join_by operation_bytes (codes ",") ops ++ codes "]"
