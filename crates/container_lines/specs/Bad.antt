-- The lines of a log that are of no format (this project's profile).
use Rattle.std.specs.Prelude.{ℕ, ◌+◌, List, [], ◌∷◌, length, filter, not, is_some, Option, Some, None}
use Rattle.line_cutter.specs.declared.line.Line.{Line}
use Rattle.container_lines.specs.declared.format.Format.{Format}
use Rattle.container_lines.specs.declared.status.BadLines.{BadLines}
use Rattle.container_lines.specs.Parts.{part_of}

-- the lines of no format, in their order
abbrev pub bad_lines : Format → List Line → List Line
bad_lines format lines = filter (λ line. not (is_some (part_of format line))) lines

-- the start of the first of these lines, and their number; none if there are no lines
abbrev pub first_and_count : List Line → Option BadLines
first_and_count [] = None
first_and_count (line ∷ lines) = Some (record { first = line.span.start; count = length (line ∷ lines) })

-- the lines of no format by the start of the first and by their number; none if each line is of the format
abbrev pub bad_found : Format → List Line → Option BadLines
bad_found format lines = first_and_count (bad_lines format lines)

-- with one more line, which begins at this place
abbrev pub noted : Option BadLines → ℕ → BadLines
noted None start = record { first = start; count = 1 }
noted (Some bad) start = record { first = bad.first; count = bad.count + 1 }
