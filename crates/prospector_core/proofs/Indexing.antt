-- The index of keys: how it is made, and what a search in it finds.
use Rattle.std.proofs.Common.{◌≡◌, ◌≢◌, ℕ, ◌<◌, List, [], length, get_or, All, sym, ◌∙◌, subst, inl, inr, arith}
use Rattle.std.specs.List.{HoldsAt, Contains}
use Rattle.std.specs.List.Sorted.{IsNonDecreasingBy, IsPartitionPoint, IsPermutation, IsSortedBy}
use Rattle.std.specs.Ordering.{is_lt, ordering_index}
use Rattle.std.specs.declared.cmp.Ordering.{Ordering}
use Rattle.std.specs.declared.cmp.Ordering.TheVariants.{Less, Equal, Greater}
use Rattle.std.proofs.lemmas.Bool.{cases_lt}
use Rattle.std.proofs.lemmas.Cmp.{nat_list_cmp_total}
use Rattle.std.proofs.lemmas.List.{get_or-map, get_or_default, length-map}
use Rattle.std.proofs.lemmas.List.Sorted.{All-permutation, Contains-permutation, searchable_from_sorted}
use Rattle.prospector_core.specs.declared.marks.Watched.{Watched}
use Rattle.prospector_core.specs.KeyIndex.{IsIndex, key_at}
use Rattle.prospector_core.specs.Marks.{keys_of}
use Rattle.wire_base.specs.KeyOrder.{compare}
use Rattle.wire_base.proofs.ByteOrder.{compare_same, same_key}

pub index_made : (keys : List (List ℕ)) (before order : List ℕ) → length before ≡ length keys → ((k : ℕ) → k < length before → get_or before k 0 ≡ k) → IsPermutation before order →
    IsSortedBy (λ place later. is_lt (compare (key_at keys place) (key_at keys later))) order → IsIndex keys order
index_made keys before order long places moved sorted = record {
  within = All-permutation (λ place. place < length keys) before order moved (λ k d inside. within k d inside);
  every = λ place inside. Contains-permutation before order place moved (every place inside);
  sorted = sorted;
}
  where
    within : (k d : ℕ) → k < length before → get_or before k d < length keys
    within k d inside = subst (λ (n : ℕ). n < length keys) (sym (get_or_default before k d 0 inside ∙ places k inside)) (omega (arith, inside, long))

    every : (place : ℕ) → place < length keys → Contains before place
    every place inside =
        let lt : place < length before = omega (arith, inside, long) in
        (place, lt, get_or_default before place place 0 lt ∙ places place lt)

pub key_of_place : (watched : List Watched) (place : ℕ) (d : Watched) → place < length watched → key_at (keys_of watched) place ≡ (get_or watched place d).file.key
key_of_place watched place d inside = get_or-map (λ (one : Watched). one.file.key) watched place d [] inside

pub place_within : (watched : List Watched) (order : List ℕ) (i place : ℕ) → IsIndex (keys_of watched) order → i < length order → place ≡ get_or order i place → place < length watched
place_within watched order i place is inside at =
    subst (λ (n : ℕ). n < length watched) (sym at)
    (let within = is.within i place inside in omega (arith, within, length-map watched (λ (one : Watched). one.file.key)))

pub place_found : (keys : List (List ℕ)) (order : List ℕ) (key : List ℕ) (i : ℕ) → HoldsAt (λ y. compare (key_at keys y) key ≡ Equal) order i → key_at keys (get_or order i 0) ≡ key
place_found keys order key i equal = same_key (key_at keys (get_or order i 0)) key (equal 0)

unequal : (o : Ordering) → o ≢ Equal → (a b : List ℕ) → compare a b ≡ o → a ≢ b
unequal o other a b is same = other (sym is ∙ compare_same a b same)

pub place_absent : (watched : List Watched) (order : List ℕ) (key : List ℕ) (i : ℕ) → IsIndex (keys_of watched) order →
    (IsNonDecreasingBy (λ y. ordering_index (compare (key_at (keys_of watched) y) key)) order →
    IsPartitionPoint (λ y. compare (key_at (keys_of watched) y) key ≡ Less) (λ y. compare (key_at (keys_of watched) y) key ≡ Greater) order i) →
    All (λ one. one.file.key ≢ key) watched
place_absent watched order key i is parted = λ k d inside. absent k d inside
  where
    parts : IsPartitionPoint (λ y. compare (key_at (keys_of watched) y) key ≡ Less) (λ y. compare (key_at (keys_of watched) y) key ≡ Greater) order i
    parts = parted (searchable_from_sorted nat_list_cmp_total (key_at (keys_of watched)) order key is.sorted)

    at : (place j : ℕ) → j < length order → get_or order j place ≡ place → key_at (keys_of watched) place ≢ key
    at place j inside here = elim (cases_lt j i) [
      | inl before ↦ unequal Less (λ q. cc) (key_at (keys_of watched) place) key
          (subst (λ (n : ℕ). compare (key_at (keys_of watched) n) key ≡ Less) here (parts.0 j place (omega arith) before))
      | inr behind ↦ unequal Greater (λ q. cc) (key_at (keys_of watched) place) key
          (subst (λ (n : ℕ). compare (key_at (keys_of watched) n) key ≡ Greater) here (parts.1 j place behind inside))
    ]

    absent : (k : ℕ) (d : Watched) → k < length watched → (get_or watched k d).file.key ≢ key
    absent k d inside =
        let found = is.every k (omega (arith, inside, length-map watched (λ (one : Watched). one.file.key))) in
        λ same. at k found.0 found.1 found.2 (key_of_place watched k d inside ∙ same)
