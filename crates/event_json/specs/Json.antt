-- The JSON text of a value (RFC 8259), compact: no space outside texts, fields in their order, which is byte order of
-- the keys, and numbers in decimal. The escapes are this project's profile.
use Rattle.std.specs.Prelude.{ℕ, ◌+◌, ◌/◌, ◌%◌, ◌==◌, nat_lt, if◌then◌else◌, List, [], ◌∷◌, ◌++◌, flat_map, codes}
use Rattle.std.specs.Fmt.{signed_decimal}
use Rattle.std.specs.List.{join_with_byte}
use Rattle.event_tree.specs.Value.{TreeValue, null, flag, int, str, list, fields, Values, no_values, value, Members, no_members, member}

-- in lower case
abbrev pub hexadecimal_digit : ℕ → ℕ
hexadecimal_digit n = if nat_lt n 10 then 48 + n else 87 + n

-- a backslash with one letter
abbrev pub short_escape : ℕ → List ℕ
short_escape letter = 0x5C ∷ letter ∷ []

-- what is in a text for the byte
unfoldable pub escape : ℕ → List ℕ
escape byte =
    if byte == 0x22 then short_escape 0x22
    else (if byte == 0x5C then short_escape 0x5C
    else (if byte == 0x08 then short_escape 0x62
    else (if byte == 0x09 then short_escape 0x74
    else (if byte == 0x0A then short_escape 0x6E
    else (if byte == 0x0C then short_escape 0x66
    else (if byte == 0x0D then short_escape 0x72
    else (if nat_lt byte 0x20 then codes "\\u00" ++ (hexadecimal_digit (byte / 16) ∷ hexadecimal_digit (byte % 16) ∷ []) else byte ∷ [])))))))

-- a text or a key
abbrev pub quoted : List ℕ → List ℕ
quoted text = 0x22 ∷ (flat_map escape text ++ 0x22 ∷ [])

-- the text of a value, and those of what is between the commas of a list or a map
abbrev mutual
  pub json_of : TreeValue → List ℕ
  json_of null = codes "null"
  json_of (flag b) = if b then codes "true" else codes "false"
  json_of (int n) = signed_decimal n
  json_of (str s) = quoted s
  json_of (list vs) = codes "[" ++ (join_with_byte 0x2C (values_json vs) ++ codes "]")
  json_of (fields ms) = codes "{" ++ (join_with_byte 0x2C (members_json ms) ++ codes "}")

  pub values_json : Values → List (List ℕ)
  values_json no_values = []
  values_json (value v vs) = json_of v ∷ values_json vs

  pub members_json : Members → List (List ℕ)
  members_json no_members = []
  members_json (member k v ms) = (quoted k ++ (codes ":" ++ json_of v)) ∷ members_json ms
