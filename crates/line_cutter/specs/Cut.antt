-- Bytes cut at their terminators (Filebeat reference, filestream input): a line ends after the first terminator that
-- begins at or after its first byte.
use Rattle.std.specs.Prelude.{ℕ, zero, suc, ◌-◌, List, [], ◌∷◌, length, take, if◌then◌else◌}
use Rattle.std.specs.Str.{bytes_eq}

pub data Cut : Type 0 where
  -- bytes in which no line ends
  rest : List ℕ → Cut
  -- the bytes of a line before its terminator, and what follows it
  line : List ℕ → Cut → Cut

-- the byte is put before them
abbrev pub in_front : ℕ → Cut → Cut
in_front byte (rest bytes) = rest (byte ∷ bytes)
in_front byte (line body behind) = line (byte ∷ body) behind

-- this many of the first bytes are the last of a terminator, and are passed by
abbrev pub cut_behind : List ℕ → ℕ → List ℕ → Cut
cut_behind terminator passed [] = rest []
cut_behind terminator (suc passed) (byte ∷ bytes) = cut_behind terminator passed bytes
cut_behind terminator zero (byte ∷ bytes) =
    if bytes_eq (take (length terminator) (byte ∷ bytes)) terminator then line [] (cut_behind terminator (length terminator - 1) bytes)
    else in_front byte (cut_behind terminator 0 bytes)

abbrev pub cut : List ℕ → List ℕ → Cut
cut terminator bytes = cut_behind terminator 0 bytes

-- the bytes after the last terminator
abbrev pub rest_in : Cut → List ℕ
rest_in (rest bytes) = bytes
rest_in (line body behind) = rest_in behind
