-- The header of a registry area (this project's profile): at the places 1 to 7 `beat 1 ` or `beat 2 `, at 8 to 27 the
-- generation in decimal digits, from 1 to 2^64 - 1, and at 28 a line feed. The gate before it is no part of it.
use Rattle.std.specs.Prelude.{◌≡◌, ℕ, ◌^◌, Bool, false, not, ◌&&◌, ◌||◌, ◌==◌, nat_lt, nat_le, if◌then◌else◌, List, find, slice_get, slice_index, Option, None, codes}
use Rattle.std.specs.List.{list_all, range_with_len, slice_range}
use Rattle.std.specs.Option.{option_map_or}
use Rattle.std.specs.Str.Parse.{digits_value}

-- the byte may be at the place
abbrev pub may_stand : ℕ → ℕ → Bool
may_stand place byte =
    if nat_lt place 8 then (byte == slice_index (codes "{beat 1 ") place) || (byte == slice_index (codes "{beat 2 ") place)
    else (if nat_lt place 28 then nat_le 48 byte && nat_le byte 57 else byte == 10)

-- the area has a byte at the place, and it may be there
abbrev pub fits : List ℕ → ℕ → Bool
fits area place = option_map_or (may_stand place) (slice_get area place) false

-- the number at the places 8 to 27
abbrev pub generation_of : List ℕ → ℕ
generation_of area = digits_value 10 (slice_range area 8 28)

-- these places have twenty digits, and their number is no generation
abbrev pub is_out_of_range : List ℕ → Bool
is_out_of_range area =
    list_all (fits area) (range_with_len 8 20) && ((generation_of area == 0) || nat_le (2 ^ 64) (generation_of area))

-- the byte at the place is absent or wrong; of a number that is no generation the first digit is wrong
abbrev pub is_wrong : List ℕ → ℕ → Bool
is_wrong area place = not (fits area place) || ((place == 8) && is_out_of_range area)

-- the place of the first byte of the header that is absent or wrong
unfoldable pub first_wrong : List ℕ → Option ℕ
first_wrong area = find (is_wrong area) (range_with_len 1 28)

-- the header is right, and has this generation
pub record HasHeader (area : List ℕ) (generation : ℕ) : Type 0 where
  pub right : first_wrong area ≡ None
  pub number : generation_of area ≡ generation
