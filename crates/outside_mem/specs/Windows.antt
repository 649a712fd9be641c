-- What a buffer shows of bytes (this project's profile).
use Rattle.std.specs.Prelude.{◌≡◌, ℕ, List, length, take, drop}

-- the bytes from a place on that fit a buffer of n bytes
abbrev pub window : ℕ → ℕ → List ℕ → List ℕ
window n at bytes = take n (drop at bytes)

-- the front of the buffer holds the bytes from the place on
abbrev pub Shows : ℕ → List ℕ → List ℕ → Type 0
Shows at bytes into = take (length (window (length into) at bytes)) into ≡ window (length into) at bytes
