-- The buffer of a reader: the large one while it has some room, or else the small one (this project's profile).
use Rattle.std.specs.Prelude.{ℕ, List, [], ◌∷◌}

abbrev pub in_use : List ℕ → List ℕ → List ℕ
in_use small [] = small
in_use small (byte ∷ large) = byte ∷ large
