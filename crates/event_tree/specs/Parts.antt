-- The parts of a field path, as they are between the dots of its text (Filebeat reference, processors).
use Rattle.std.specs.Prelude.{◌≡◌, ◌≢◌, ℕ, ◌+◌, ◌<◌, List, [], ◌∷◌, length, All, ◌==◌, Option, Some, None, option_map}
use Rattle.std.specs.List.{slice_split}
use Rattle.event_tree.specs.Paths.{Parts}
use Rattle.event_tree.specs.declared.errors.PathError.{PathError}
use Rattle.event_tree.specs.declared.errors.PathError.TheVariants.{EmptyPart, NoMemory}

-- what is before, between and after the dots: `a..b` has the parts `a`, ``, and `b`
abbrev pub parts_of : List ℕ → Parts
parts_of bytes = slice_split (λ byte. byte == 46) bytes

-- there is a part, and none is empty
pub record IsNamed (parts : Parts) : Type 0 where
  pub some : 0 < length parts
  pub named : All (λ part. part ≢ []) parts

-- the byte place of the first empty part, if the parts are joined by one dot between two
abbrev pub empty_place : Parts → Option ℕ
empty_place [] = None
empty_place ([] ∷ parts) = Some 0
empty_place ((byte ∷ bytes) ∷ parts) = option_map (λ at. length (byte ∷ bytes) + 1 + at) (empty_place parts)

-- `at` is the byte place of the first empty part; out of memory may come with any text
abbrev pub IsPathRefusal : List ℕ → PathError → Type 0
IsPathRefusal text (EmptyPart at) = empty_place (parts_of text) ≡ Some at
IsPathRefusal text NoMemory = Unit {0}
