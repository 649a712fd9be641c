-- For private clauses: bytes to which a record is appended.
use Rattle.std.specs.Prelude.{◌≡◌, ◌≢◌, ℕ, ◌⊎◌, List, ◌∷◌, ◌++◌, length, drop}

-- after `front` the gate is open, then come `text` and the rest of `rest`
abbrev pub appended : List ℕ → List ℕ → List ℕ → List ℕ
appended front text rest = front ++ 0x7B ∷ (text ++ drop (length text) rest)

-- the gate after `front` is not open, or all of the text is after it
abbrev pub IsPartAppended : List ℕ → List ℕ → List ℕ → List ℕ → Type 0
IsPartAppended front text rest image =
    ((gate : ℕ) × (more : List ℕ) × (image ≡ front ++ gate ∷ more) × (gate ≢ 0x7B)) ⊎ (image ≡ appended front text rest)
