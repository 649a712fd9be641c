-- A text within a text (Filebeat reference, conditions, `contains`): its bytes are somewhere in the other's, one
-- after the other.
use Rattle.std.specs.Prelude.{ℕ, Bool, ◌||◌, bytes_eq, List, [], ◌∷◌, length, take}

abbrev pub is_within : List ℕ → List ℕ → Bool
is_within text [] = bytes_eq [] text
is_within text (byte ∷ bytes) = bytes_eq (take (length text) (byte ∷ bytes)) text || is_within text bytes
