-- Which of the listed files are followed (Filebeat reference, filestream input, file identity; this project's profile): of several with
-- one key the first as they are listed; the others are doubled. A file whose key is not known is no double.
use Rattle.std.specs.Prelude.{◌≡◌, ◌⊎◌, ℕ, List, [], ◌∷◌, ◌++◌, Any, Contains, Option, None, Some}
use Rattle.std.specs.List.{AllByRecursion}
use Rattle.prospect.specs.declared.listed.Listed.{Listed}

-- one of these files has the key
abbrev pub HaveKey : List Listed → Option (List ℕ) → Type 0
HaveKey files None = ⊥
HaveKey files (Some key) = Any (λ one. one.key ≡ Some key) files

-- after these files, which are followed, the listed ones are parted this way
abbrev pub PartsBehind : List Listed → List Listed → List Listed → List Listed → Type 0
PartsBehind before [] files doubled = (files ≡ []) × (doubled ≡ [])
PartsBehind before (one ∷ listed) files doubled =
    (HaveKey before one.key × (others : List Listed) × (doubled ≡ one ∷ others) × PartsBehind before listed files others)
    ⊎ ((¬ (HaveKey before one.key)) × (others : List Listed) × (files ≡ one ∷ others) × PartsBehind (before ++ one ∷ []) listed others doubled)

-- those that are followed, and those that are doubled, each in the order in which they are listed
abbrev pub PartsDoubled : List Listed → List Listed → List Listed → Type 0
PartsDoubled listed files doubled = PartsBehind [] listed files doubled

-- ---- files with keys

-- no two of these files have one key
abbrev pub AreKeysApart : List Listed → Type 0
AreKeysApart [] = Unit {0}
AreKeysApart (one ∷ others) = (¬ (HaveKey others one.key)) × AreKeysApart others

-- R holds of each file and each one after it
abbrev pub Before : (Listed → Listed → Type 0) → List Listed → Type 0
Before R [] = Unit {0}
Before R (one ∷ others) = AllByRecursion (λ later. R one later) others × Before R others

-- the file has a key, and one of these files has it
pub record HasFirst (files : List Listed) (one : Listed) : Type 0 where
  pub first : Listed
  pub key : List ℕ
  pub among : Contains files first
  pub key_is : one.key ≡ Some key
  pub same_key : first.key ≡ Some key
