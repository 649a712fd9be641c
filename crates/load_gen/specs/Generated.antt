-- The log that is shipped in place of files (this project's profile): numbered lines. Each third line, from the first on,
-- begins with a bracket, as the first line of an event does; the two after it begin with a space, and go on with it.
use Rattle.std.specs.Prelude.{ℕ, zero, suc, ◌%◌, true, false, nat_eq, List, [], ◌++◌, codes, decimal}

-- the line of this number, counted from 0
abbrev pub line_text : ℕ → List ℕ
line_text number = elim (nat_eq (number % 3) 0) [
  | true ↦ codes "[" ++ decimal number ++ codes "]\n"
  | false ↦ codes " " ++ decimal number ++ codes "\n"
]

-- this many lines, from the first on
abbrev pub generated_text : ℕ → List ℕ
generated_text zero = []
generated_text (suc count) = generated_text count ++ line_text count
