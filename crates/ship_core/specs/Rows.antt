-- The rows of the registry: at most one for each key, in byte order of the keys (this project's profile).
use Rattle.std.specs.Prelude.{ℕ, All, List, Option}
use Rattle.wire_base.specs.KeyOrder as entries
use Rattle.wire_base.specs.declared.row.Row.{Row}
use Rattle.wire_base.specs.Ranges.{IsRow}

abbrev pub key_of : Row → List ℕ
key_of row = row.key

-- the key comes before each key of the rows
abbrev pub IsBefore : List ℕ → List Row → Type 0
IsBefore = entries.IsBefore key_of

-- each key comes before all later keys
abbrev pub IsInOrder : List Row → Type 0
IsInOrder = entries.IsInOrder key_of

-- the rows are in order, and each is within its ranges
pub record AreRows (rows : List Row) : Type 0 where
  pub in_order : IsInOrder rows
  pub in_range : All IsRow rows

-- the row of a key
abbrev pub find : List ℕ → List Row → Option Row
find = entries.find key_of
