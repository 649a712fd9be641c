-- The places of members, sorted by their paths.
use Rattle.std.proofs.Common.{◌≡◌, ℕ, ◌<◌, List, [], length, get_or, sym, ◌∙◌, subst, arith, All}
use Rattle.std.proofs.lemmas.List.Sorted.{All-permutation}
use Rattle.std.specs.Cmp.{IsTotalOrder, on_total, then_total, nat_cmp_total}
use Rattle.std.specs.List.{range_with_len}
use Rattle.std.specs.List.Sorted.{IsPermutation, IsSortedBy}
use Rattle.std.specs.Ordering.{is_lt}
use Rattle.std.proofs.lemmas.Cmp.{nat_list_cmp_total}
use Rattle.std.proofs.lemmas.List.{get_or-map, get_or_default, same_lists}
use Rattle.std.proofs.lemmas.List.FromFn.{get_or-range_with_len, length-range_with_len}
use Rattle.prospector_core.specs.declared.seen.Seen.{Seen}
use Rattle.restart_join.specs.PathOrder.{InPathOrder, path_at, paths_of, place_cmp}

pub places_total : (paths : List (List ℕ)) → IsTotalOrder (place_cmp paths)
places_total paths = then_total (on_total (path_at paths) nat_list_cmp_total) nat_cmp_total

pub order_made : (seen : List Seen) (before order : List ℕ) → length before ≡ length seen → ((k : ℕ) → k < length before → get_or before k 0 ≡ k) → IsPermutation before order →
    IsSortedBy (λ a b. is_lt (place_cmp (paths_of seen) a b)) order → InPathOrder seen order
order_made seen before order long places moved sorted = record {
  every = subst (λ (l : List ℕ). IsPermutation l order) upto moved;
  sorted = sorted;
}
  where
    upto : before ≡ range_with_len 0 (length seen)
    upto = same_lists before (range_with_len 0 (length seen)) (long ∙ sym (length-range_with_len 0 (length seen)))
        (λ k d inside.
        let here = get_or_default before k d 0 inside ∙ places k inside in
        let there = get_or-range_with_len 0 (length seen) k d (omega (arith, inside, long)) in
        omega (arith, here, there))

pub path_of_place : (seen : List Seen) (place : ℕ) (d : Seen) → place < length seen → path_at (paths_of seen) place ≡ (get_or seen place d).path
path_of_place seen place d inside = get_or-map (λ (member : Seen). member.path) seen place d [] inside

pub places_within : (seen : List Seen) (before order : List ℕ) → length before ≡ length seen → ((k : ℕ) → k < length before → get_or before k 0 ≡ k) → IsPermutation before order →
    All (λ place. place < length seen) order
places_within seen before order long places moved = All-permutation (λ place. place < length seen) before order moved
    (λ k d inside. subst (λ (n : ℕ). n < length seen) (sym (get_or_default before k d 0 inside ∙ places k inside)) (omega (arith, inside, long)))
