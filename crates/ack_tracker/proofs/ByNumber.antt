-- Maps from numbers: what a look-up finds among entries.
use Rattle.std.proofs.Common.{◌≡◌, ◌≢◌, ℕ, Bool, true, false, cond, List, [], ◌∷◌, Contains, Some, None, refl, sym, subst}
use Rattle.std.specs.Map.{lookup}
use Rattle.std.specs.BTreeMap.{is_at}
use Rattle.std.specs.Ordering.{nat_cmp, is_eq}
use Rattle.std.specs.declared.cmp.Ordering.{Ordering}
use Rattle.std.specs.declared.cmp.Ordering.TheVariants.{Less, Equal, Greater}
use Rattle.std.proofs.lemmas.Map.Lookups.{exact_unsigned}
use Rattle.ack_tracker.proofs.Contained.{first_there, later_there}

is_equal : (o : Ordering) → is_eq o ≡ true → o ≡ Equal
is_equal Less e = absurd (let q : false ≡ true = e in cc)
is_equal Equal e = refl
is_equal Greater e = absurd (let q : false ≡ true = e in cc)

pub at_number : (a b : ℕ) → is_at (nat_cmp a) b ≡ true → a ≡ b
at_number a b e = exact_unsigned a b (is_equal (nat_cmp a b) e)

pub not_at : (a b : ℕ) → a ≢ b → is_at (nat_cmp a) b ≡ false
not_at a b differs = by_case (is_at (nat_cmp a) b) refl
  where
    by_case : (t : Bool) → is_at (nat_cmp a) b ≡ t → t ≡ false
    by_case true e = absurd (differs (at_number a b e))
    by_case false e = refl

-- what is found is an entry
pub found_there : {X : Type 0} (entries : List (ℕ × X)) (key : ℕ) (x : X) → lookup (is_at (nat_cmp key)) entries ≡ Some x → Contains entries (key, x)
found_there [] key x e = absurd (let q : None ≡ Some x = e in cc)
found_there {X} (entry ∷ entries) key x e = by_case (is_at (nat_cmp key) entry.0) refl e (found_there entries key x)
  where
    by_case : (t : Bool) → is_at (nat_cmp key) entry.0 ≡ t → cond t (Some entry.1) (lookup (is_at (nat_cmp key)) entries) ≡ Some x → (lookup (is_at (nat_cmp key)) entries ≡ Some x → Contains entries (key, x)) → Contains (entry ∷ entries) (key, x)
    by_case true at e h =
        let value : entry.1 ≡ x = let q : Some entry.1 ≡ Some x = e in cc in
        let same : entry ≡ (key, x) = λ k. (sym (at_number key entry.0 at) k, value k) in
        subst (λ (p : ℕ × X). Contains (entry ∷ entries) p) same (first_there entry entries)
    by_case false at e h = later_there entry (key, x) entries (h e)
