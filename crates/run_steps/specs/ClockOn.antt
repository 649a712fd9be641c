-- A clock goes on (this project's profile): what it reported stays the front of what it reports.
use Rattle.std.specs.Prelude.{◌≡◌, ℕ, List, ◌++◌, Option, Some, None}

abbrev pub MomentsGoOn : Option (List ℕ) → Option (List ℕ) → Type 0
MomentsGoOn None after = after ≡ None
MomentsGoOn (Some moments) after = (more : List ℕ) × (after ≡ Some (moments ++ more))
