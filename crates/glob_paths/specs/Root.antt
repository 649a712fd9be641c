-- What to list for a glob: the folder of its longest row of leading plain parts, and how deep (this project's profile).
use Rattle.std.specs.Prelude.{◌≡◌, ◌≢◌, ℕ, ◌+◌, ◌≤◌, Bool, not, ◌&&◌, ◌==◌, List, [], ◌∷◌, ◌++◌, length, drop, All, if◌then◌else◌}
use Rattle.std.specs.List.{list_all}
use Rattle.wire_base.specs.Path.{parts_of, folder_parts}
use Rattle.glob_paths.specs.Cover.{is_deep}

-- it is no `*`, `?`, `[` or backslash
abbrev pub is_plain_byte : ℕ → Bool
is_plain_byte byte = not (byte == 42) && (not (byte == 63) && (not (byte == 91) && not (byte == 92)))

abbrev pub is_plain : List ℕ → Bool
is_plain text = list_all is_plain_byte text

-- the leading plain parts, never the last, and the others
abbrev pub leading_parts : List (List ℕ) → List (List ℕ)
leading_parts [] = []
leading_parts (part ∷ []) = []
leading_parts (part ∷ next ∷ parts) = if is_plain part then part ∷ leading_parts (next ∷ parts) else []

abbrev pub other_parts : List (List ℕ) → List (List ℕ)
other_parts [] = []
other_parts (part ∷ []) = part ∷ []
other_parts (part ∷ next ∷ parts) = if is_plain part then other_parts (next ∷ parts) else part ∷ next ∷ parts

-- a slash before each part
abbrev pub slashed : List (List ℕ) → List ℕ
slashed [] = []
slashed (part ∷ parts) = 47 ∷ part ++ slashed parts

-- the folder of no part is `/`
abbrev pub or_slash : List ℕ → List ℕ
or_slash [] = 47 ∷ []
or_slash (byte ∷ bytes) = byte ∷ bytes

-- how many parts of a path a part of a glob stands for at most
abbrev pub depth_of_part : List ℕ → ℕ
depth_of_part part = if is_deep part then 8 else 1

abbrev pub depth_of_parts : List (List ℕ) → ℕ
depth_of_parts [] = 0
depth_of_parts (part ∷ parts) = depth_of_part part + depth_of_parts parts

-- the parts after the first slash of a text that begins with it
abbrev pub behind_slash : List ℕ → List (List ℕ)
behind_slash [] = []
behind_slash (byte ∷ text) = parts_of text

-- the folder to list for the glob of this text
abbrev pub root_of : List ℕ → List ℕ
root_of text = or_slash (slashed (leading_parts (behind_slash text)))

-- how many parts after its root a path has at most that the glob covers
abbrev pub depth_of : List ℕ → ℕ
depth_of text = depth_of_parts (other_parts (behind_slash text))

-- the path is the root's, and then at most `depth` parts more
pub record IsWithin (root : List ℕ) (depth : ℕ) (path : List ℕ) : Type 0 where
  pub behind : List (List ℕ)
  pub spelled : parts_of path ≡ folder_parts root ++ behind
  pub few : length behind ≤ depth

-- no part after the first slash is empty
abbrev pub HasNames : List ℕ → Type 0
HasNames path = All (λ part. part ≢ []) (drop 1 (parts_of path))
