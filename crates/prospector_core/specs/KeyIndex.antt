-- The places of files in byte order of their keys, in which a key is searched.
use Rattle.std.specs.Prelude.{ℕ, ◌<◌, List, [], length, slice_index_or, All, Contains}
use Rattle.std.specs.List.Sorted.{IsSortedBy}
use Rattle.std.specs.Ordering.{is_lt}
use Rattle.wire_base.specs.KeyOrder.{compare}

-- the key at a place
abbrev pub key_at : List (List ℕ) → ℕ → List ℕ
key_at keys place = slice_index_or keys place []

-- each place once or more, and none else, so that the keys do not fall
pub record IsIndex (keys : List (List ℕ)) (order : List ℕ) : Type 0 where
  pub within : All (λ place. place < length keys) order
  pub every : (place : ℕ) → place < length keys → Contains order place
  pub sorted : IsSortedBy (λ place later. is_lt (compare (key_at keys place) (key_at keys later))) order
