-- What is in a line for one of its parts (this project's profile; the values of labels are those of the text format of
-- Prometheus).
use Rattle.std.specs.Prelude.{ℕ, ◌-◌, ◌==◌, if◌then◌else◌, List, [], ◌∷◌, ◌++◌, length, replicate, codes, decimal, Option, None, Some}
use Rattle.std.specs.List.{flat_map}
use Rattle.file_progress.specs.declared.part.Part.{Part}
use Rattle.file_progress.specs.declared.part.Part.TheVariants.{Label, Left, Number, Plain, Right}

-- as many spaces as a text of this length leaves of so many columns
abbrev pub spaces : ℕ → ℕ → List ℕ
spaces columns size = replicate (columns - size) 32

-- the number, or a line if there is none
abbrev pub number_or_line : Option ℕ → List ℕ
number_or_line None = codes "-"
number_or_line (Some number) = decimal number

-- at the right end of its columns, and at the left end of them
abbrev pub right_of : ℕ → List ℕ → List ℕ
right_of columns text = spaces columns (length text) ++ text

abbrev pub left_of : ℕ → List ℕ → List ℕ
left_of columns text = text ++ spaces columns (length text)

-- a backslash, a quotation mark and a line feed do not stay as they are
abbrev pub label_escape : ℕ → List ℕ
label_escape byte =
    if byte == 0x5C then codes "\\\\"
    else (if byte == 0x22 then codes "\\\""
    else (if byte == 0x0A then codes "\\n" else byte ∷ []))

abbrev pub part_bytes : Part → List ℕ
part_bytes (Plain bytes) = bytes.now
part_bytes (Number number) = decimal number
part_bytes (Right number columns) = right_of columns (number_or_line number)
part_bytes (Left name columns) = left_of columns name.now
part_bytes (Label text) = flat_map label_escape text.now
