-- Two lists, one for one (this project's profile).
use Rattle.std.specs.Prelude.{◌≡◌, List, [], ◌∷◌}

-- R holds of the first two, of the next two and so on, and both lists are equally long
abbrev pub Each : {X Y : Type 0} → (X → Y → Type 0) → List X → List Y → Type 0
Each R [] ys = ys ≡ []
Each {Y = Y} R (x ∷ xs) ys = (y : Y) × (others : List Y) × (ys ≡ y ∷ others) × R x y × Each R xs others
