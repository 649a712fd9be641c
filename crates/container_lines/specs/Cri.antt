-- A line of a CRI log (Kubernetes' CRI log format): a time stamp, a stream, a tag and a text, with one space between two
-- of them. The stamp is not looked into and not empty. The tag is `P` for a partial line or `F`, or one of these with
-- `:` and further tags. After the tag there may be nothing; the text is then empty.
use Rattle.std.specs.Prelude.{ℕ, ◌==◌, Bool, true, false, List, [], ◌∷◌, Option, Some, None, option_map, option_and_then, if◌then◌else◌}
use Rattle.container_lines.specs.declared.format.Stream.{Stream}
use Rattle.container_lines.specs.Part.{Part, part_with, stream_named}

-- the bytes before the first space, and those after it; none if there is no space
abbrev pub split_field : List ℕ → Option (List ℕ × List ℕ)
split_field [] = None
split_field (byte ∷ bytes) = if byte == 32 then Some ([], bytes) else option_map (λ fields. (byte ∷ fields.0, fields.1)) (split_field bytes)

-- the bytes before the first space and those after it; all of them and nothing if there is no space
abbrev pub last_field : List ℕ → List ℕ × List ℕ
last_field bytes = elim (split_field bytes) [ None ↦ (bytes, []) | Some fields ↦ fields ]

-- whether a line with this letter is partial; none if it begins no tag
abbrev pub letter_partial : ℕ → Option Bool
letter_partial letter = if letter == 80 then Some true else (if letter == 70 then Some false else None)

-- the same of a whole tag
abbrev pub tag_partial : List ℕ → Option Bool
tag_partial [] = None
tag_partial (letter ∷ []) = letter_partial letter
tag_partial (letter ∷ byte ∷ more) = if byte == 58 then letter_partial letter else None

-- what the tag and the text say of a stream
abbrev pub tagged_part : Stream → List ℕ × List ℕ → Option Part
tagged_part stream fields = option_map (λ partial. part_with stream partial fields.1) (tag_partial fields.0)

-- what is after the stamp
abbrev pub streamed_part : List ℕ → Option Part
streamed_part bytes = option_and_then (λ fields. option_and_then (λ stream. tagged_part stream (last_field fields.1)) (stream_named fields.0)) (split_field bytes)

-- what is after a stamp, which is not empty
abbrev pub stamped_part : List ℕ → List ℕ → Option Part
stamped_part [] bytes = None
stamped_part (byte ∷ stamp) bytes = streamed_part bytes

abbrev pub cri_part : List ℕ → Option Part
cri_part content = option_and_then (λ fields. stamped_part fields.0 fields.1) (split_field content)
