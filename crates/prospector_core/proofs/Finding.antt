-- The first of a list with a key, as the list grows, and where the keys differ.
use Rattle.std.proofs.Common.{◌≡◌, ◌≢◌, ℕ, zero, suc, ◌<◌, Bool, true, false, List, [], ◌∷◌, ◌++◌, length, get_or, All, AllPairs, Option, Some, None, refl, sym, ap, ◌∙◌, subst, if◌then◌else◌, arith}
use Rattle.std.specs.List.{AllByRecursion}
use Rattle.std.specs.Ordering.{is_eq}
use Rattle.std.specs.declared.cmp.Ordering.{Ordering}
use Rattle.std.specs.declared.cmp.Ordering.TheVariants.{Less, Equal, Greater}
use Rattle.std.proofs.lemmas.List.Elements.{recursion_from_All}
use Rattle.wire_base.specs.KeyOrder.{compare, find}
use Rattle.wire_base.proofs.ByteOrder.{same_key, compare_same}

pub other_key : (key other : List ℕ) → other ≢ key → is_eq (compare key other) ≡ false
other_key key other differs = by_case (compare key other) refl
  where
    by_case : (o : Ordering) → compare key other ≡ o → is_eq o ≡ false
    by_case Less e = refl
    by_case Equal e = absurd (differs (sym (same_key key other e)))
    by_case Greater e = refl

-- the keys are one, or they differ
pub same_or_other : (P : Type 0) (key other : List ℕ) → (key ≡ other → P) → (key ≢ other → P) → P
same_or_other P key other same differ = by_case (compare key other) refl
  where
    unequal : (o : Ordering) → compare key other ≡ o → o ≢ Equal → key ≢ other
    unequal o e not_equal one = not_equal (sym e ∙ compare_same key other one)

    by_case : (o : Ordering) → compare key other ≡ o → P
    by_case Less e = differ (unequal Less e (λ q. cc))
    by_case Equal e = same (same_key key other e)
    by_case Greater e = differ (unequal Greater e (λ q. cc))

module _ {A : Type 0} (key_of : A → List ℕ) where
  pub find-append_found : (key : List ℕ) (xs ys : List A) (x : A) → find key_of key xs ≡ Some x → find key_of key (xs ++ ys) ≡ Some x
  find-append_found key [] ys x found = absurd (let q : None ≡ Some x = found in cc)
  find-append_found key (y ∷ xs) ys x found = by_case (is_eq (compare key (key_of y))) (find-append_found key xs ys x) found
    where
      by_case : (b : Bool) → (find key_of key xs ≡ Some x → find key_of key (xs ++ ys) ≡ Some x) → (if b then Some y else find key_of key xs) ≡ Some x → (if b then Some y else find key_of key (xs ++ ys)) ≡ Some x
      by_case true h e = e
      by_case false h e = h e

  pub find-append_none : (key : List ℕ) (xs ys : List A) → find key_of key xs ≡ None → find key_of key (xs ++ ys) ≡ find key_of key ys
  find-append_none key [] ys lacks = refl
  find-append_none key (y ∷ xs) ys lacks = by_case (is_eq (compare key (key_of y))) (find-append_none key xs ys) lacks
    where
      by_case : (b : Bool) → (find key_of key xs ≡ None → find key_of key (xs ++ ys) ≡ find key_of key ys) → (if b then Some y else find key_of key xs) ≡ None → (if b then Some y else find key_of key (xs ++ ys)) ≡ find key_of key ys
      by_case true h e = absurd (let q : Some y ≡ None = e in cc)
      by_case false h e = h e

  pub find_same : (x : A) (xs : List A) → find key_of (key_of x) (x ∷ xs) ≡ Some x
  find_same x xs = ap (λ (o : Ordering). if is_eq o then Some x else find key_of (key_of x) xs) (compare_same (key_of x) (key_of x) refl)

  pub find_other : (key : List ℕ) (x : A) (xs : List A) → key_of x ≢ key → find key_of key (x ∷ xs) ≡ find key_of key xs
  find_other key x xs differs = ap (λ (b : Bool). if b then Some x else find key_of key xs) (other_key key (key_of x) differs)

  pub found_key : (key : List ℕ) (xs : List A) (x : A) → find key_of key xs ≡ Some x → key_of x ≡ key
  found_key key [] x found = absurd (let q : None ≡ Some x = found in cc)
  found_key key (y ∷ xs) x found = by_case (compare key (key_of y)) refl (found_key key xs x) found
    where
      by_case : (o : Ordering) → compare key (key_of y) ≡ o → (find key_of key xs ≡ Some x → key_of x ≡ key) → (if is_eq o then Some y else find key_of key xs) ≡ Some x → key_of x ≡ key
      by_case Less e h is = h is
      by_case Equal e h is = let same : y ≡ x = cc in subst (λ (z : A). key_of z ≡ key) same (sym (same_key key (key_of y) e))
      by_case Greater e h is = h is

  none_each : (key : List ℕ) (xs : List A) → AllByRecursion (λ x. key_of x ≢ key) xs → find key_of key xs ≡ None
  none_each key [] all = refl
  none_each key (x ∷ xs) all = find_other key x xs all.0 ∙ none_each key xs all.1

  pub find_none : (key : List ℕ) (xs : List A) → All (λ x. key_of x ≢ key) xs → find key_of key xs ≡ None
  find_none key xs all = none_each key xs (recursion_from_All (λ x. key_of x ≢ key) xs all)

  -- the one at a place, if no other has its key
  pub find_place : (xs : List A) (place : ℕ) (d : A) → AllPairs (λ a b. key_of a ≢ key_of b) xs → place < length xs →
      find key_of (key_of (get_or xs place d)) xs ≡ Some (get_or xs place d)
  find_place [] place d apart inside = absurd (omega arith)
  find_place (x ∷ xs) zero d apart inside = find_same x xs
  find_place (x ∷ xs) (suc place) d apart inside =
      find_other (key_of (get_or xs place d)) x xs (apart 0 (suc place) d (omega arith) inside)
      ∙ find_place xs place d (λ i j e lt within. apart (suc i) (suc j) e (omega arith) (omega arith)) (omega arith)

  -- ---- one more at the end

  pub find-push_other : (key : List ℕ) (xs : List A) (x : A) → key_of x ≢ key → find key_of key (xs ++ x ∷ []) ≡ find key_of key xs
  find-push_other key xs x differs = by_case (find key_of key xs) refl
    where
      by_case : (o : Option A) → find key_of key xs ≡ o → find key_of key (xs ++ x ∷ []) ≡ find key_of key xs
      by_case None e = find-append_none key xs (x ∷ []) e ∙ find_other key x [] differs ∙ sym e
      by_case (Some y) e = find-append_found key xs (x ∷ []) y e ∙ sym e

  pub find-push_first : (xs : List A) (x : A) → find key_of (key_of x) xs ≡ None → find key_of (key_of x) (xs ++ x ∷ []) ≡ Some x
  find-push_first xs x lacks = find-append_none (key_of x) xs (x ∷ []) lacks ∙ find_same x []

  -- a further one with the key of an earlier one changes nothing
  pub find-push_further : (key : List ℕ) (xs : List A) (x y : A) → find key_of (key_of x) xs ≡ Some y → find key_of key (xs ++ x ∷ []) ≡ find key_of key xs
  find-push_further key xs x y found =
      same_or_other (find key_of key (xs ++ x ∷ []) ≡ find key_of key xs) (key_of x) key
      (λ same. let here : find key_of key xs ≡ Some y = subst (λ (k : List ℕ). find key_of k xs ≡ Some y) same found in
      find-append_found key xs (x ∷ []) y here ∙ sym here)
      (λ differs. find-push_other key xs x differs)
