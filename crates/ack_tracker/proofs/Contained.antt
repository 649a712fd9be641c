-- Members of lists.
use Rattle.std.proofs.Common.{◌≡◌, ◌⊎◌, inl, inr, ℕ, zero, suc, ◌<◌, Bool, true, false, List, [], ◌∷◌, ◌++◌, length, get_or, Contains, Option, Some, None, refl, sym, ap, ◌∙◌, subst, arith}
use Rattle.std.specs.List.{filter_map, cons_option, list_any}
use Rattle.std.proofs.lemmas.Bool.{or_cases, or_left, or_right}
use Rattle.std.proofs.lemmas.List.Elements.{Contains-append_cases}

module _ {X : Type 0} where
  pub first_there : (x : X) (xs : List X) → Contains (x ∷ xs) x
  first_there x xs = (0, omega arith, refl)

  pub later_there : (first x : X) (xs : List X) → Contains xs x → Contains (first ∷ xs) x
  later_there first x xs there = (suc there.0, omega (arith, there.1), there.2)

  pub there_cases : (first x : X) (xs : List X) → Contains (first ∷ xs) x → (first ≡ x) ⊎ Contains xs x
  there_cases first x xs there = by_place there.0 there.1 there.2
    where
      by_place : (k : ℕ) → k < length (first ∷ xs) → get_or (first ∷ xs) k x ≡ x → (first ≡ x) ⊎ Contains xs x
      by_place zero inside is = inl is
      by_place (suc k) inside is = inr (k, omega arith, is)

  pub none_there : (x : X) → Contains [] x → ⊥
  none_there x there = omega (arith, there.1)

  -- a member of a list of one more is the last, or was there before
  pub one_more_cases : (xs : List X) (last x : X) → Contains (xs ++ last ∷ []) x → (last ≡ x) ⊎ Contains xs x
  one_more_cases xs last x there = elim (Contains-append_cases xs (last ∷ []) x there) [
    | inl early ↦ inr early
    | inr late ↦ elim (there_cases last x [] late) [
      | inl same ↦ inl same
      | inr none ↦ absurd (none_there x none)
    ]
  ]

module _ {X Y : Type 0} where
  pub given_there : (h : X → Option Y) (xs : List X) (x : X) (y : Y) → Contains xs x → h x ≡ Some y → Contains (filter_map h xs) y
  given_there h [] x y there e = absurd (none_there x there)
  given_there h (first ∷ xs) x y there e = by_case (h first) refl (there_cases first x xs there) (λ later. given_there h xs x y later e)
    where
      by_case : (o : Option Y) → h first ≡ o → (first ≡ x) ⊎ Contains xs x → (Contains xs x → Contains (filter_map h xs) y) → Contains (cons_option o (filter_map h xs)) y
      by_case None is (inl same) g = absurd (let q : None ≡ Some y = sym is ∙ ap h same ∙ e in cc)
      by_case None is (inr later) g = g later
      by_case (Some z) is (inl same) g = let q : Some z ≡ Some y = sym is ∙ ap h same ∙ e in let zy : z ≡ y = cc in subst (λ (v : Y). Contains (z ∷ filter_map h xs) v) zy (first_there z (filter_map h xs))
      by_case (Some z) is (inr later) g = later_there z y (filter_map h xs) (g later)

  pub there_given : (h : X → Option Y) (xs : List X) (y : Y) → Contains (filter_map h xs) y → (x : X) × Contains xs x × (h x ≡ Some y)
  there_given h [] y there = absurd (none_there y there)
  there_given h (first ∷ xs) y there = by_case (h first) refl there (there_given h xs y)
    where
      by_case : (o : Option Y) → h first ≡ o → Contains (cons_option o (filter_map h xs)) y → (Contains (filter_map h xs) y → (x : X) × Contains xs x × (h x ≡ Some y)) → (x : X) × Contains (first ∷ xs) x × (h x ≡ Some y)
      by_case None is there g = let found = g there in (found.0, later_there first found.0 xs found.1, found.2)
      by_case (Some z) is there g = elim (there_cases z y (filter_map h xs) there) [
        | inl same ↦ (first, first_there first xs, is ∙ ap Some same)
        | inr later ↦ let found = g later in (found.0, later_there first found.0 xs found.1, found.2)
      ]

-- ---- a test of any

module _ {X : Type 0} where
  pub any_there : (p : X → Bool) (xs : List X) → list_any p xs ≡ true → (x : X) × Contains xs x × (p x ≡ true)
  any_there p [] e = absurd (let q : false ≡ true = e in cc)
  any_there p (first ∷ xs) e = elim (or_cases (p first) (list_any p xs) e) [
    | inl here ↦ (first, first_there first xs, here)
    | inr later ↦ let found = any_there p xs later in (found.0, later_there first found.0 xs found.1, found.2)
  ]

  pub there_any : (p : X → Bool) (xs : List X) (x : X) → Contains xs x → p x ≡ true → list_any p xs ≡ true
  there_any p [] x there e = absurd (none_there x there)
  there_any p (first ∷ xs) x there e = elim (there_cases first x xs there) [
    | inl same ↦ or_left (p first) (list_any p xs) (ap p same ∙ e)
    | inr later ↦ or_right (p first) (list_any p xs) (there_any p xs x later e)
  ]
