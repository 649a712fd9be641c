-- A name, as an id and a host have it: letters, digits, `_`, `.` and `-` (this project's profile).
use Rattle.std.specs.Prelude.{ℕ, Bool, ◌==◌, ◌&&◌, ◌||◌, nat_lt, nat_le, List, length, All, IsTrue}
use Rattle.std.specs.Int.{IsInRange}
use Rattle.std.specs.List.{list_all}

abbrev pub is_name_byte : ℕ → Bool
is_name_byte byte =
    (nat_le 65 byte && nat_le byte 90) || ((nat_le 97 byte && nat_le byte 122) || ((nat_le 48 byte && nat_le byte 57)
    || (byte == 95 || (byte == 46 || byte == 45))))

-- 1 to `most` bytes of these
abbrev pub is_name : ℕ → List ℕ → Bool
is_name most text = nat_lt 0 (length text) && (nat_le (length text) most && list_all is_name_byte text)

-- the same as a fact
pub record IsName (most : ℕ) (text : List ℕ) : Type 0 where
  pub count : IsInRange 1 most (length text)
  pub bytes : All (λ byte. IsTrue (is_name_byte byte)) text
