-- How many lines may be generated: N of `--generate N` (this project's profile).
use Rattle.std.specs.Prelude.{◌≤◌, ℕ, List}
use Rattle.wire_base.specs.Decimal.{IsDecimal, value_of}

abbrev pub most_lines : ℕ
most_lines = 1000000

-- decimal digits without a sign or a leading zero of a number from 1 to the most
abbrev pub IsLineCount : List ℕ → Type 0
IsLineCount digits = IsDecimal digits × (1 ≤ value_of digits) × (value_of digits ≤ most_lines)
