-- A number in a text: decimal digits without a sign or a leading zero, `0` itself allowed (this project's profile).
use Rattle.std.specs.Prelude.{ℕ, Bool, not, ◌==◌, ◌&&◌, ◌||◌, nat_lt, nat_le, List, length, slice_index, Option, Some, None, if◌then◌else◌}
use Rattle.std.specs.List.{list_all}
use Rattle.std.specs.Char.{is_ascii_digit}
use Rattle.std.specs.Str.Parse.{digits_value}

abbrev pub is_number : List ℕ → Bool
is_number digits =
    nat_lt 0 (length digits) && (list_all is_ascii_digit digits && (not (slice_index digits 0 == 48) || length digits == 1))

-- the number of at most this many digits
abbrev pub number_of : ℕ → List ℕ → Option ℕ
number_of most digits = if nat_le (length digits) most && is_number digits then Some (digits_value 10 digits) else None
