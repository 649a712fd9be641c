-- The members of a scan in byte order of their paths; members of one path stay as they were given.
use Rattle.std.specs.Prelude.{ℕ, List, [], length, map, slice_get, slice_index_or}
use Rattle.std.specs.List.{filter_map, range_with_len}
use Rattle.std.specs.List.Sorted.{IsPermutation, IsSortedBy}
use Rattle.std.specs.Ordering.{is_lt, nat_cmp, ordering_then}
use Rattle.std.specs.declared.cmp.Ordering.{Ordering}
use Rattle.prospector_core.specs.declared.seen.Seen.{Seen}
use Rattle.wire_base.specs.KeyOrder.{compare}

abbrev pub paths_of : List Seen → List (List ℕ)
paths_of seen = map (λ member. member.path) seen

abbrev pub path_at : List (List ℕ) → ℕ → List ℕ
path_at paths place = slice_index_or paths place []

-- by path, and then by place
abbrev pub place_cmp : List (List ℕ) → ℕ → ℕ → Ordering
place_cmp paths place later = ordering_then (compare (path_at paths place) (path_at paths later)) (nat_cmp place later)

-- each place once, in this order
pub record InPathOrder (seen : List Seen) (order : List ℕ) : Type 0 where
  pub every : IsPermutation (range_with_len 0 (length seen)) order
  pub sorted : IsSortedBy (λ place later. is_lt (place_cmp (paths_of seen) place later)) order

-- the members at these places
abbrev pub members_at : List Seen → List ℕ → List Seen
members_at seen order = filter_map (slice_get seen) order
