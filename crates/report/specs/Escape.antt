-- The bytes that do not are written as they are in a JSON text (RFC 8259, section 7).
use Rattle.std.specs.Prelude.{ℕ, Bool, ◌==◌, ◌||◌, nat_lt}

-- the quotation mark, the backslash and the control characters
abbrev pub is_escaped : ℕ → Bool
is_escaped byte = ((byte == 0x22) || (byte == 0x5C)) || nat_lt byte 0x20
