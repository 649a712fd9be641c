-- Which paths a glob covers (Filebeat reference, filestream paths; that `**` is at most 8 parts is its default): each
-- part matches the part of the path in its place, and `**` stands for 0 to 8 whole nonempty parts.
use Rattle.std.specs.Prelude.{◌≡◌, ◌≢◌, ℕ, ◌≤◌, Bool, Option, Some, None, List, [], ◌∷◌, length, take, drop, map, slice_get, if◌then◌else◌}
use Rattle.std.specs.List.{AllByRecursion}
use Rattle.std.specs.Str.{IsUtf8, bytes_eq, chars}
use Rattle.wire_base.specs.Path.{parts_of}
use Rattle.glob_paths.specs.Token.{Token, tokens}
use Rattle.glob_paths.specs.Match.{Matches}

pub data Part : Type 0 where
  -- `**`
  deep : Part
  -- any other part, by what it asks of a name
  named : List Token → Part

-- the text of the part is `**`
abbrev pub is_deep : List ℕ → Bool
is_deep text = bytes_eq text (42 ∷ 42 ∷ [])

abbrev pub part_of : List ℕ → Part
part_of text = if is_deep text then deep else named (tokens text)

-- what the text of a glob means: its parts, of which the first, before its first slash, is empty
abbrev pub meaning : List ℕ → List Part
meaning text = map part_of (parts_of text)

abbrev pub PartsCover : List Part → List (List ℕ) → Type 0
PartsCover [] [] = Unit {0}
PartsCover [] (name ∷ names) = ⊥
PartsCover (deep ∷ parts) names =
    (count : ℕ) × (count ≤ 8) × (count ≤ length names) × AllByRecursion (λ name. name ≢ []) (take count names) × PartsCover parts (drop count names)
PartsCover (named tokens ∷ parts) [] = ⊥
PartsCover (named tokens ∷ parts) (name ∷ names) = Matches tokens (chars name) × PartsCover parts names

-- the glob of this text covers the path, which begins with a slash as it does
abbrev pub Covers : List ℕ → List ℕ → Type 0
Covers text path = IsUtf8 path × (slice_get path 0 ≡ Some 47) × PartsCover (meaning text) (parts_of path)

-- the parts of a path from some slash on; if it has ended there are none
abbrev pub parts_left : Option (List ℕ) → List (List ℕ)
parts_left None = []
parts_left (Some path) = parts_of path
