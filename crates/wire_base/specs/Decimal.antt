-- Decimal numbers as they are written in formats: digits without a sign or a leading zero (this project's profile).
use Rattle.std.specs.Prelude.{◌≡◌, ℕ, ◌<◌, List, length, All, slice_get, Some}
use Rattle.std.specs.Char.{IsAsciiDigit}
use Rattle.std.specs.Str.Parse.{digits_value}

-- at least one digit, and a zero in front only if it is by itself
pub record IsDecimal (bytes : List ℕ) : Type 0 where
  pub some : 0 < length bytes
  pub digits : All IsAsciiDigit bytes
  pub no_leading_zero : slice_get bytes 0 ≡ Some 48 → length bytes ≡ 1

-- the number that digits stand for
abbrev pub value_of : List ℕ → ℕ
value_of bytes = digits_value 10 bytes
