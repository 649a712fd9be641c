-- The arguments of the program (this project's profile): `put`, or `send HOST`. HOST is `NAME`, which has the port 5044, or
-- `NAME:PORT` (the form and the port of Filebeat's Logstash output); NAME is 1 to 253 of `A-Z a-z 0-9 . _ -`, and PORT a
-- decimal from 1 to 65535.
use Rattle.std.specs.Prelude.{◌≡◌, ◌⊎◌, ◌≤◌, ℕ, Bool, ◌==◌, ◌&&◌, ◌||◌, not, nat_lt, nat_le, IsTrue, List, [], ◌∷◌, length, take, drop, codes}
use Rattle.std.specs.List.{list_all, prefix_len}
use Rattle.wire_base.specs.Decimal.{IsDecimal, value_of}

abbrev pub is_name_byte : ℕ → Bool
is_name_byte byte =
    (nat_le 65 byte && nat_le byte 90) || ((nat_le 97 byte && nat_le byte 122) || ((nat_le 48 byte && nat_le byte 57)
    || (byte == 95 || (byte == 46 || byte == 45))))

abbrev pub is_name : List ℕ → Bool
is_name text = nat_lt 0 (length text) && (nat_le (length text) 253 && list_all is_name_byte text)

-- how many bytes are before the first colon
abbrev pub name_length : List ℕ → ℕ
name_length text = prefix_len (λ byte. not (byte == 58)) text

abbrev pub IsPort : List ℕ → Type 0
IsPort digits = IsDecimal digits × (1 ≤ value_of digits) × (value_of digits ≤ 65535)

-- nothing, or a colon and a port
abbrev pub IsPortBehind : List ℕ → Type 0
IsPortBehind [] = Unit {0}
IsPortBehind (colon ∷ digits) = IsPort digits

abbrev pub IsHost : List ℕ → Type 0
IsHost text = IsTrue (is_name (take (name_length text) text)) × IsPortBehind (drop (name_length text) text)

abbrev pub IsPut : List (List ℕ) → Type 0
IsPut words = words ≡ codes "put" ∷ []

abbrev pub IsSend : List (List ℕ) → Type 0
IsSend words = (place : List ℕ) × (words ≡ codes "send" ∷ place ∷ []) × IsHost place

abbrev pub IsCommand : List (List ℕ) → Type 0
IsCommand words = IsPut words ⊎ IsSend words
