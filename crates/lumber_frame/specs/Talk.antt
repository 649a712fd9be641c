-- A talk over one link (Lumberjack v2): what was sent and received, piece by piece, its bytes in each direction,
-- and how many bytes were out as a byte came in.
use Rattle.std.specs.Prelude.{ℕ, ◌+◌, ◌-◌, List, [], ◌∷◌, ◌++◌, length, nat_lt, if◌then◌else◌}
use Rattle.wire_base.specs.declared.talk.Piece.{Piece}
use Rattle.wire_base.specs.declared.talk.Piece.TheVariants.{Out, In}

-- all that was sent, in order
abbrev pub out_bytes : List Piece → List ℕ
out_bytes [] = []
out_bytes (Out bytes ∷ talk) = bytes ++ out_bytes talk
out_bytes (In bytes ∷ talk) = out_bytes talk

-- all that was received, in order
abbrev pub in_bytes : List Piece → List ℕ
in_bytes [] = []
in_bytes (Out bytes ∷ talk) = in_bytes talk
in_bytes (In bytes ∷ talk) = bytes ++ in_bytes talk

-- how many bytes were sent before the received byte at this place came
abbrev pub out_before : List Piece → ℕ → ℕ
out_before [] place = 0
out_before (Out bytes ∷ talk) place = length bytes + out_before talk place
out_before (In bytes ∷ talk) place =
    if nat_lt place (length bytes) then 0 else out_before talk (place - length bytes)
