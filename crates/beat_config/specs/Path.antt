-- Where a key or a member of a list is in a document: parts between dots, with numbers from 0 for the members of
-- lists (this project's profile).
use Rattle.std.specs.Prelude.{ℕ, List, [], ◌∷◌, ◌++◌, decimal}

-- the path of a key below a path; the empty path is that of the document
abbrev pub key_path : List ℕ → List ℕ → List ℕ
key_path [] key = key
key_path (byte ∷ path) key = (byte ∷ path) ++ 46 ∷ key

-- the path of the member of that number
abbrev pub member_path : List ℕ → ℕ → List ℕ
member_path path number = key_path path (decimal number)
