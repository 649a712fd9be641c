-- Slots whose files' keys were noted since the last commit.
use Rattle.std.proofs.Common.{◌≡◌, ◌⊎◌, inl, inr, ℕ, Bool, true, false, List, [], ◌∷◌, ◌||◌, Option, Some, None, IsSome, refl, sym, ap, ◌∙◌, subst}
use Rattle.std.specs.List.{list_any}
use Rattle.std.specs.BTreeMap.{is_at}
use Rattle.std.specs.BTreeSet.{insert_key}
use Rattle.std.specs.Ordering.{nat_cmp, match_ordering}
use Rattle.std.specs.declared.cmp.Ordering.{Ordering}
use Rattle.std.specs.declared.cmp.Ordering.TheVariants.{Less, Equal, Greater}
use Rattle.wire_base.specs.Ranges.{IsKey}
use Rattle.wire_base.specs.declared.row.Row.{Row}
use Rattle.ack_tracker.specs.FileState.{FileState}
use Rattle.ack_tracker.specs.Files.{file_of}
use Rattle.ack_tracker.specs.Keys.{at_key, AreFresh, KeepsRows}
use Rattle.ack_tracker.proofs.ByNumber.{at_number}

-- what is found after an insertion is what was inserted, or was there
inserted : (keys : List ℕ) (key slot : ℕ) → list_any (is_at (nat_cmp slot)) (insert_key nat_cmp keys key) ≡ true → (is_at (nat_cmp slot) key ≡ true) ⊎ (list_any (is_at (nat_cmp slot)) keys ≡ true)
inserted [] key slot there = by_case (is_at (nat_cmp slot) key) refl there
  where
    by_case : (b : Bool) → is_at (nat_cmp slot) key ≡ b → (b || false) ≡ true → (is_at (nat_cmp slot) key ≡ true) ⊎ (list_any (is_at (nat_cmp slot)) [] ≡ true)
    by_case true e found = inl e
    by_case false e found = absurd (let q : false ≡ true = found in cc)
inserted (one ∷ keys) key slot there = by_order (nat_cmp key one) refl there (inserted keys key slot)
  where
    Found : Bool → Type 0
    Found b = (is_at (nat_cmp slot) key ≡ true) ⊎ (b ≡ true)

    one_at : Bool
    one_at = is_at (nat_cmp slot) one

    by_key : (b : Bool) → is_at (nat_cmp slot) key ≡ b → (b || list_any (is_at (nat_cmp slot)) (one ∷ keys)) ≡ true → Found (list_any (is_at (nat_cmp slot)) (one ∷ keys))
    by_key true e found = inl e
    by_key false e found = inr found

    by_one : (b : Bool) → one_at ≡ b → (b || list_any (is_at (nat_cmp slot)) (insert_key nat_cmp keys key)) ≡ true → (list_any (is_at (nat_cmp slot)) (insert_key nat_cmp keys key) ≡ true → Found (list_any (is_at (nat_cmp slot)) keys)) → Found (b || list_any (is_at (nat_cmp slot)) keys)
    by_one true e found later = inr refl
    by_one false e found later = later found

    by_order : (o : Ordering) → nat_cmp key one ≡ o → list_any (is_at (nat_cmp slot)) (match_ordering o (key ∷ one ∷ keys) (one ∷ keys) (one ∷ insert_key nat_cmp keys key)) ≡ true → (list_any (is_at (nat_cmp slot)) (insert_key nat_cmp keys key) ≡ true → Found (list_any (is_at (nat_cmp slot)) keys)) → Found (list_any (is_at (nat_cmp slot)) (one ∷ keys))
    by_order Less e found later = by_key (is_at (nat_cmp slot) key) refl found
    by_order Equal e found later = inr found
    by_order Greater e found later = by_one one_at refl found later

-- a key that was noted stays so
stays_noted : (old new : List (List ℕ × Option Row)) (rows : List ℕ → Option Row) → KeepsRows old new rows → (key : List ℕ) → IsSome (at_key old key) → IsSome (at_key new key)
stays_noted old new rows keeps key some = by_case (keeps key)
  where
    by_case : (at_key new key ≡ at_key old key) ⊎ ((at_key old key ≡ None) × IsKey key × (at_key new key ≡ Some (rows key))) → IsSome (at_key new key)
    by_case (inl same) = subst IsSome (sym same) some
    by_case (inr set) = absurd (let q : false ≡ true = subst IsSome set.0 some in cc)

pub stay_fresh : (fresh : List ℕ) (files : List (ℕ × FileState)) (old new : List (List ℕ × Option Row)) (rows : List ℕ → Option Row) → KeepsRows old new rows → AreFresh fresh files old → AreFresh fresh files new
stay_fresh fresh files old new rows keeps were slot there =
    let was = were slot there in
    (was.0, was.1, stays_noted old new rows keeps was.0.key was.2)

-- one slot more
pub one_more_fresh : (fresh more : List ℕ) (slot : ℕ) (file : FileState) (files : List (ℕ × FileState)) (noted : List (List ℕ × Option Row)) → AreFresh fresh files noted → file_of files slot ≡ Some file → IsSome (at_key noted file.key) → more ≡ insert_key nat_cmp fresh slot → AreFresh more files noted
one_more_fresh fresh more slot file files noted were here some is other there = by_case (inserted fresh slot other (subst (λ (keys : List ℕ). list_any (is_at (nat_cmp other)) keys ≡ true) is there))
  where
    by_case : (is_at (nat_cmp other) slot ≡ true) ⊎ (list_any (is_at (nat_cmp other)) fresh ≡ true) → (its : FileState) × (file_of files other ≡ Some its) × IsSome (at_key noted its.key)
    by_case (inl at) = (file, ap (file_of files) (at_number other slot at) ∙ here, some)
    by_case (inr was) = were other was
