-- The moments that a clock gives (this project's profile).
use Rattle.std.specs.Prelude.{◌≡◌, ◌⊎◌, ℕ, ◌-◌, List, [], ◌∷◌, ◌++◌, length, slice_get, Option, Some, None}

-- the list ends with this moment
abbrev pub EndsWith : List ℕ → ℕ → Type 0
EndsWith moments moment = slice_get moments (length moments - 1) ≡ Some moment

-- the answer is at the end of the list, and was put there only if the list did not end with it already
abbrev pub GivesMoment : Option (List ℕ) → ℕ → Option (List ℕ) → Type 0
GivesMoment None moment after = after ≡ None
GivesMoment (Some moments) moment after =
    (EndsWith moments moment × (after ≡ Some moments)) ⊎ ((¬ (EndsWith moments moment)) × (after ≡ Some (moments ++ moment ∷ [])))
