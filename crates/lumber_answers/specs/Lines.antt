-- The line of a payload (Lumberjack v2; this project's profile): its line feeds are spaces, and a line feed ends it.
use Rattle.std.specs.Prelude.{◌==◌, ℕ, List, [], ◌∷◌, ◌++◌, map, if◌then◌else◌}

-- 10 is the line feed, and 32 the space
abbrev pub byte_of_line : ℕ → ℕ
byte_of_line byte = if byte == 10 then 32 else byte

abbrev pub line_of : List ℕ → List ℕ
line_of payload = map byte_of_line payload ++ 10 ∷ []
