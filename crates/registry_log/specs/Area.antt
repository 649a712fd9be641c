-- A registry area as it is started, always in version 2 (this project's profile).
use Rattle.std.specs.Prelude.{ℕ, List, ◌++◌, map, codes}
use Rattle.wire_base.specs.declared.row.Op.{Op}
use Rattle.wire_base.specs.declared.row.Op.TheVariants.{Set}
use Rattle.wire_base.specs.declared.row.Row.{Row}
use Rattle.registry_log.specs.Records.{padded, records_bytes}

-- the version, the generation in twenty digits and a line feed
abbrev pub header_bytes : ℕ → List ℕ
header_bytes generation = codes "beat 2 " ++ padded 20 generation ++ codes "\n"

-- an operation for each row, in their order
abbrev pub sets : List Row → List Op
sets = map Set

-- the open gate, the header, the records that set the rows, and a closed gate
abbrev pub area_bytes : ℕ → List Row → List ℕ
area_bytes generation rows = codes "{" ++ header_bytes generation ++ records_bytes (sets rows) ++ codes "."
