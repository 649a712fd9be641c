-- Byte order of keys and paths, and lists of entries in that order, one for each key (this project's profile).
use Rattle.std.specs.Prelude.{◌≡◌, ℕ, ◌<◌, ◌≤◌, List, [], ◌∷◌, length, slice_index_or, Option, Some, None, if◌then◌else◌}
use Rattle.std.specs.Cmp.Lexicographic.{slice_cmp}
use Rattle.std.specs.Ordering.{nat_cmp, match_ordering, is_eq}
use Rattle.std.specs.declared.cmp.Ordering.{Ordering}
use Rattle.std.specs.declared.cmp.Ordering.TheVariants.{Less}

-- byte order
abbrev pub compare : List ℕ → List ℕ → Ordering
compare = slice_cmp nat_cmp

-- ---- entries, each of which has a key

-- the key comes before the key of each entry
abbrev pub IsBefore : {A : Type 0} → (A → List ℕ) → List ℕ → List A → Type 0
IsBefore key_of key [] = Unit {0}
IsBefore key_of key (entry ∷ entries) = (compare key (key_of entry) ≡ Less) × IsBefore key_of key entries

-- each key comes before all later keys
abbrev pub IsInOrder : {A : Type 0} → (A → List ℕ) → List A → Type 0
IsInOrder key_of [] = Unit {0}
IsInOrder key_of (entry ∷ entries) = IsBefore key_of (key_of entry) entries × IsInOrder key_of entries

-- the entry of a key
abbrev pub find : {A : Type 0} → (A → List ℕ) → List ℕ → List A → Option A
find key_of key [] = None
find key_of key (entry ∷ entries) = if is_eq (compare key (key_of entry)) then Some entry else find key_of key entries

-- the entries with this one: in place of its key's, or at the place to which its key belongs
abbrev pub with_entry : {A : Type 0} → (A → List ℕ) → A → List A → List A
with_entry key_of entry [] = entry ∷ []
with_entry key_of entry (other ∷ entries) =
    match_ordering (compare (key_of entry) (key_of other)) (entry ∷ other ∷ entries) (entry ∷ entries) (other ∷ with_entry key_of entry entries)

-- the entries without the key's
abbrev pub without_key : {A : Type 0} → (A → List ℕ) → List ℕ → List A → List A
without_key key_of key [] = []
without_key key_of key (entry ∷ entries) =
    if is_eq (compare key (key_of entry)) then without_key key_of key entries else entry ∷ without_key key_of key entries

-- ---- the place of a key

-- the entry at place i has the key
pub record IsAt {A : Type 0} (key_of : A → List ℕ) (entries : List A) (key : List ℕ) (i : ℕ) : Type 0 where
  pub in_range : i < length entries
  pub has_key : (fallback : A) → key_of (slice_index_or entries i fallback) ≡ key

-- the key belongs at place i: lesser keys before it, and greater keys from it on
pub record IsGap {A : Type 0} (key_of : A → List ℕ) (entries : List A) (key : List ℕ) (i : ℕ) : Type 0 where
  pub in_range : i ≤ length entries
  pub lesser_before : (j : ℕ) (fallback : A) → j < i → compare (key_of (slice_index_or entries j fallback)) key ≡ Less
  pub greater_behind : (j : ℕ) (fallback : A) → i ≤ j → j < length entries →
      compare key (key_of (slice_index_or entries j fallback)) ≡ Less
