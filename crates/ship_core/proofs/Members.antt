-- What filtered lists contain, and lists that contain the same.
use Rattle.std.proofs.Common.{◌≡◌, ◌⊎◌, inl, inr, ℕ, zero, suc, ◌≤◌, ◌<◌, Bool, true, false, List, [], ◌∷◌, length, get_or, max, Contains, Option, Some, None, if◌then◌else◌, refl, sym, ap, ◌∙◌, subst, arith}
use Rattle.std.specs.List.{filter, filter_map, cons_option, fold, list_any}
use Rattle.std.proofs.lemmas.Bool.{or_cases, or_left, or_right}

module _ {X : Type 0} where
  pub first_there : (x : X) (xs : List X) → Contains (x ∷ xs) x
  first_there x xs = (0, omega arith, refl)

  pub later_there : (first x : X) (xs : List X) → Contains xs x → Contains (first ∷ xs) x
  later_there first x xs there = (suc there.0, omega (arith, there.1), there.2)

  pub there_cases : (first x : X) (xs : List X) → Contains (first ∷ xs) x → (first ≡ x) ⊎ Contains xs x
  there_cases first x xs there = by_place there.0 there.1 there.2
    where
      by_place : (k : ℕ) → k < length (first ∷ xs) → get_or (first ∷ xs) k x ≡ x → (first ≡ x) ⊎ Contains xs x
      by_place zero inside is = inl is
      by_place (suc k) inside is = inr (k, omega arith, is)

  pub none_there : (x : X) → Contains [] x → ⊥
  none_there x there = omega (arith, there.1)

  -- ---- a filter

  pub passed_there : (p : X → Bool) (xs : List X) (x : X) → Contains xs x → p x ≡ true → Contains (filter p xs) x
  passed_there p [] x there e = absurd (none_there x there)
  passed_there p (first ∷ xs) x there e = by_case (p first) refl (there_cases first x xs there) (λ later. passed_there p xs x later e)
    where
      by_case : (b : Bool) → p first ≡ b → (first ≡ x) ⊎ Contains xs x → (Contains xs x → Contains (filter p xs) x) → Contains (if b then first ∷ filter p xs else filter p xs) x
      by_case true is (inl same) h = subst (λ (z : X). Contains (first ∷ filter p xs) z) same (first_there first (filter p xs))
      by_case true is (inr later) h = later_there first x (filter p xs) (h later)
      by_case false is (inl same) h = absurd (let q : true ≡ false = sym e ∙ ap p (sym same) ∙ is in cc)
      by_case false is (inr later) h = h later

  pub there_passed : (p : X → Bool) (xs : List X) (x : X) → Contains (filter p xs) x → Contains xs x × (p x ≡ true)
  there_passed p [] x there = absurd (none_there x there)
  there_passed p (first ∷ xs) x there = by_case (p first) refl there (there_passed p xs x)
    where
      by_case : (b : Bool) → p first ≡ b → Contains (if b then first ∷ filter p xs else filter p xs) x → (Contains (filter p xs) x → Contains xs x × (p x ≡ true)) → Contains (first ∷ xs) x × (p x ≡ true)
      by_case true is there h = elim (there_cases first x (filter p xs) there) [
        | inl same ↦ (subst (λ (z : X). Contains (first ∷ xs) z) same (first_there first xs), ap p (sym same) ∙ is)
        | inr later ↦ (later_there first x xs (h later).0, (h later).1)
      ]
      by_case false is there h = (later_there first x xs (h there).0, (h there).1)

  -- ---- a test of any

  pub any_there : (p : X → Bool) (xs : List X) → list_any p xs ≡ true → (x : X) × Contains xs x × (p x ≡ true)
  any_there p [] e = absurd (let q : false ≡ true = e in cc)
  any_there p (first ∷ xs) e = elim (or_cases (p first) (list_any p xs) e) [
    | inl here ↦ (first, first_there first xs, here)
    | inr later ↦ let found = any_there p xs later in (found.0, later_there first found.0 xs found.1, found.2)
  ]

  pub there_any : (p : X → Bool) (xs : List X) (x : X) → Contains xs x → p x ≡ true → list_any p xs ≡ true
  there_any p [] x there e = absurd (none_there x there)
  there_any p (first ∷ xs) x there e = elim (there_cases first x xs there) [
    | inl same ↦ or_left (p first) (list_any p xs) (ap p same ∙ e)
    | inr later ↦ or_right (p first) (list_any p xs) (there_any p xs x later e)
  ]

  -- one list contains what the other does
  abbrev pub Within : List X → List X → Type 0
  Within xs ys = (x : X) → Contains xs x → Contains ys x

  pub filter_within : (p : X → Bool) (xs ys : List X) → Within xs ys → Within (filter p xs) (filter p ys)
  filter_within p xs ys within x there = let passed = there_passed p xs x there in passed_there p ys x (within x passed.0) passed.1

  pub any_within : (p : X → Bool) (xs ys : List X) → Within xs ys → list_any p xs ≡ true → list_any p ys ≡ true
  any_within p xs ys within e = let found = any_there p xs e in there_any p ys found.0 (within found.0 found.1) found.2

  pub same_any : (p : X → Bool) (xs ys : List X) → Within xs ys → Within ys xs → list_any p xs ≡ list_any p ys
  same_any p xs ys there back = by_case (list_any p xs) refl (list_any p ys) refl
    where
      by_case : (b : Bool) → list_any p xs ≡ b → (d : Bool) → list_any p ys ≡ d → b ≡ d
      by_case true e d f = sym (any_within p xs ys there e) ∙ f
      by_case false e true f = sym e ∙ any_within p ys xs back f
      by_case false e false f = refl

module _ {X Y : Type 0} where
  pub given_there : (h : X → Option Y) (xs : List X) (x : X) (y : Y) → Contains xs x → h x ≡ Some y → Contains (filter_map h xs) y
  given_there h [] x y there e = absurd (none_there x there)
  given_there h (first ∷ xs) x y there e = by_case (h first) refl (there_cases first x xs there) (λ later. given_there h xs x y later e)
    where
      by_case : (o : Option Y) → h first ≡ o → (first ≡ x) ⊎ Contains xs x → (Contains xs x → Contains (filter_map h xs) y) → Contains (cons_option o (filter_map h xs)) y
      by_case None is (inl same) g = absurd (let q : None ≡ Some y = sym is ∙ ap h same ∙ e in cc)
      by_case None is (inr later) g = g later
      by_case (Some z) is (inl same) g = let q : Some z ≡ Some y = sym is ∙ ap h same ∙ e in let zy : z ≡ y = cc in subst (λ (v : Y). Contains (z ∷ filter_map h xs) v) zy (first_there z (filter_map h xs))
      by_case (Some z) is (inr later) g = later_there z y (filter_map h xs) (g later)

  pub there_given : (h : X → Option Y) (xs : List X) (y : Y) → Contains (filter_map h xs) y → (x : X) × Contains xs x × (h x ≡ Some y)
  there_given h [] y there = absurd (none_there y there)
  there_given h (first ∷ xs) y there = by_case (h first) refl there (there_given h xs y)
    where
      by_case : (o : Option Y) → h first ≡ o → Contains (cons_option o (filter_map h xs)) y → (Contains (filter_map h xs) y → (x : X) × Contains xs x × (h x ≡ Some y)) → (x : X) × Contains (first ∷ xs) x × (h x ≡ Some y)
      by_case None is there g = let found = g there in (found.0, later_there first found.0 xs found.1, found.2)
      by_case (Some z) is there g = elim (there_cases z y (filter_map h xs) there) [
        | inl same ↦ (first, first_there first xs, is ∙ ap Some same)
        | inr later ↦ let found = g later in (found.0, later_there first found.0 xs found.1, found.2)
      ]

  pub given_within : (h : X → Option Y) (xs ys : List X) → Within xs ys → Within (filter_map h xs) (filter_map h ys)
  given_within h xs ys within y there = let found = there_given h xs y there in given_there h ys found.0 y (within found.0 found.1) found.2

-- ---- the greatest number

pub greatest_least : (least most : ℕ) (xs : List ℕ) → least ≤ most → ((x : ℕ) → Contains xs x → x ≤ most) → fold max least xs ≤ most
greatest_least least most [] le each = le
greatest_least least most (x ∷ xs) le each = greatest_least (max least x) most xs (let h = each x (first_there x xs) in omega (arith, h)) (λ y there. each y (later_there x y xs there))

pub least_within : (least : ℕ) (xs : List ℕ) → least ≤ fold max least xs
least_within least [] = omega arith
least_within least (x ∷ xs) = let h = least_within (max least x) xs in omega (arith, h)

pub member_within : (least : ℕ) (xs : List ℕ) (x : ℕ) → Contains xs x → x ≤ fold max least xs
member_within least [] x there = absurd (none_there x there)
member_within least (first ∷ xs) x there = elim (there_cases first x xs there) [
  | inl same ↦ let h = least_within (max least first) xs in omega (arith, h, same)
  | inr later ↦ member_within (max least first) xs x later
]

pub same_greatest : (xs ys : List ℕ) → Within xs ys → Within ys xs → fold max 0 xs ≡ fold max 0 ys
same_greatest xs ys there back =
    let one = greatest_least 0 (fold max 0 ys) xs (omega arith) (λ x at. member_within 0 ys x (there x at)) in
    let two = greatest_least 0 (fold max 0 xs) ys (omega arith) (λ x at. member_within 0 xs x (back x at)) in
    omega (arith, one, two)
