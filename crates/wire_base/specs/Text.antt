-- Which bytes are no text, and where they stop being one (RFC 3629, as std's `from_utf8` reads it).
use Rattle.std.specs.Prelude.{ℕ, List}
use Rattle.std.specs.Str.{IsUtf8, IsValidUpTo}
use Rattle.wire_base.specs.declared.text.TextError.{TextError}
use Rattle.wire_base.specs.declared.text.TextError.TheVariants.{NotUtf8, NoMemory}

-- the bytes are not UTF-8, and `at` is the length of their longest front that is; out of memory may come with any
abbrev pub IsRefusedFor : List ℕ → TextError → Type 0
IsRefusedFor bytes (NotUtf8 at) = (¬ (IsUtf8 bytes)) × IsValidUpTo bytes at
IsRefusedFor bytes NoMemory = Unit {0}
