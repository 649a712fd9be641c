-- What an area may hold while it is started (this project's profile).
use Rattle.std.specs.Prelude.{◌≡◌, ◌≢◌, ◌⊎◌, ℕ, ◌≤◌, List, [], ◌∷◌, length, Option, Some, None}
use Rattle.wire_base.specs.declared.row.Row.{Row}
use Rattle.registry_log.specs.Area.{area_bytes}

-- it has no byte after its gate
abbrev pub IsBlank : List ℕ → Type 0
IsBlank area = length area ≤ 1

-- its first byte is no `{`
abbrev pub IsClosed : List ℕ → Type 0
IsClosed [] = ⊥
IsClosed (gate ∷ rest) = gate ≢ 0x7B

-- it holds what it held before, or nothing that is read
abbrev pub IsShut : List ℕ → List ℕ → Type 0
IsShut before area = (area ≡ before) ⊎ (IsBlank area ⊎ IsClosed area)

-- the same, or all of the bytes
abbrev pub IsPartWritten : List ℕ → List ℕ → List ℕ → Type 0
IsPartWritten bytes before area = IsShut before area ⊎ (area ≡ bytes)

-- an area that held `before` and is started with a generation and rows: if it is opened and not as before, it holds
-- exactly these
abbrev pub IsPartStarted : ℕ → List Row → List ℕ → List ℕ → Type 0
IsPartStarted generation rows = IsPartWritten (area_bytes generation rows)

-- the contents are known, and are of this kind
abbrev pub Holds : (List ℕ → Type 0) → Option (List ℕ) → Type 0
Holds Kind None = ⊥
Holds Kind (Some area) = Kind area
