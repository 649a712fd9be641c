-- The parts of a path, and the paths below a root (this project's profile).
use Rattle.std.specs.Prelude.{◌≡◌, ◌≢◌, ℕ, ◌<◌, ◌≤◌, List, [], ◌∷◌, ◌++◌, length, All, if◌then◌else◌, ◌==◌}

-- the byte is put in front of the first part
abbrev pub on_first_part : ℕ → List (List ℕ) → List (List ℕ)
on_first_part byte [] = (byte ∷ []) ∷ []
on_first_part byte (part ∷ parts) = (byte ∷ part) ∷ parts

-- what is before, between and after the slashes: `/a/b` has the parts ``, `a` and `b`
abbrev pub parts_of : List ℕ → List (List ℕ)
parts_of [] = [] ∷ []
parts_of (byte ∷ bytes) = if byte == 47 then [] ∷ parts_of bytes else on_first_part byte (parts_of bytes)

-- the parts of a folder's path; the root `/` has the one empty part before its slash
abbrev pub folder_parts : List ℕ → List (List ℕ)
folder_parts [] = [] ∷ []
folder_parts (byte ∷ []) = if byte == 47 then [] ∷ [] else (byte ∷ []) ∷ []
folder_parts (byte ∷ next ∷ bytes) = parts_of (byte ∷ next ∷ bytes)

-- the path is the root's, and then at least one and at most `depth` parts more, none of them empty
pub record IsBelow (root : List ℕ) (depth : ℕ) (path : List ℕ) : Type 0 where
  pub below : List (List ℕ)
  pub spelled : parts_of path ≡ folder_parts root ++ below
  pub some : 0 < length below
  pub few : length below ≤ depth
  pub named : All (λ part. part ≢ []) below
