-- The lines that are put into a spool, and the first of them that it refuses (this project's profile).
use Rattle.std.specs.Prelude.{◌≡◌, ℕ, ◌+◌, ◌==◌, nat_lt, List, [], ◌∷◌, ◌++◌, length, Option, Some, None, IfSome, if◌then◌else◌}
use Rattle.spool_queue.specs.declared.limits.TheConstants.{MAX_EVENT_BYTES, MAX_SPOOL_BYTES}
use Rattle.spool_queue.specs.declared.status.SpoolStatus.{SpoolStatus}
use Rattle.spool_queue.specs.declared.status.SpoolStatus.TheVariants.{Full, TooLong}

-- the lines that a line feed ends, each without it, if `begun` is the front of the first
abbrev pub lines_behind : List ℕ → List ℕ → List (List ℕ)
lines_behind begun [] = []
lines_behind begun (byte ∷ bytes) = if byte == 10 then begun ∷ lines_behind [] bytes else lines_behind (begun ++ byte ∷ []) bytes

abbrev pub lines_of : List ℕ → List (List ℕ)
lines_of bytes = lines_behind [] bytes

-- what one more line reserves: 14 bytes and its own for its record, and 34 for the record that settles it
abbrev pub reserved_with : ℕ → List ℕ → ℕ
reserved_with reserved line = reserved + (48 + length line)

-- how a spool with so many bytes reserved refuses the first of the lines that it refuses, if the first line has this
-- number
abbrev pub refusal_of : ℕ → ℕ → List (List ℕ) → Option SpoolStatus
refusal_of reserved number [] = None
refusal_of reserved number (line ∷ lines) =
    if nat_lt MAX_EVENT_BYTES (length line) then Some (TooLong number)
    else (if nat_lt MAX_SPOOL_BYTES (reserved_with reserved line) then Some (Full number) else refusal_of (reserved_with reserved line) (number + 1) lines)

-- these lines are the first ones of a source, if its content is known
abbrev pub AreFirstLines : Option (List ℕ) → List (List ℕ) → Type 0
AreFirstLines source lines = IfSome source (λ bytes. (more : List (List ℕ)) × (lines_of bytes ≡ lines ++ more))
