-- A list without one of its items, whose place the last one takes.
use Rattle.std.proofs.Common.{◌≡◌, ◌⊎◌, inl, inr, ⊎_elim, ℕ, zero, suc, ◌+◌, ◌-◌, ◌<◌, List, [], ◌∷◌, ◌++◌, get_or, length, take, Some, refl, sym, ap, subst, ◌∙◌, arith}
use Rattle.std.specs.Prelude.{slice_get, slice_set}
use Rattle.std.specs.List.{AllByRecursion, flat_map, swap_remove}
use Rattle.accounts.specs.Turning.{Pairs}
use Rattle.pass_sums.specs.Weight.{AsOften, weigh}
use Rattle.pass_sums.proofs.Weights.{weigh-append}
use Rattle.rounds.specs.Pairs.{SomeOf}
use Rattle.run_steps.proofs.Causing.{some_parted}
use Rattle.run_steps.proofs.LastOver.{some_behind, some_first}

module _ {A : Type 0} where
  -- the last of these, and those before it
  pub last_of : A → List A → A
  last_of x [] = x
  last_of x (y ∷ xs) = last_of y xs

  pub before_last : A → List A → List A
  before_last x [] = []
  before_last x (y ∷ xs) = x ∷ before_last y xs

  -- the last one first, then those before it
  pub turned_round : List A → List A
  turned_round [] = []
  turned_round (x ∷ xs) = last_of x xs ∷ before_last x xs

  pub less : List A → ℕ → List A
  less [] k = []
  less (x ∷ xs) zero = turned_round xs
  less (x ∷ xs) (suc k) = x ∷ less xs k

module _ {A : Type 0} where
  last_got : (x : A) (xs : List A) (some : A) → get_or (x ∷ xs) (length xs) some ≡ last_of x xs
  unfolding last_of
  last_got x [] some = refl
  last_got x (y ∷ xs) some =
      let long : length (y ∷ xs) ≡ suc (length xs) = omega arith in
      ap (λ (n : ℕ). get_or (x ∷ y ∷ xs) n some) long ∙ last_got y xs some

  front_taken : (x : A) (xs : List A) → take (length xs) (x ∷ xs) ≡ before_last x xs
  unfolding before_last
  front_taken x [] = refl
  front_taken x (y ∷ xs) =
      let long : length (y ∷ xs) ≡ suc (length xs) = omega arith in
      ap (λ (n : ℕ). take n (x ∷ y ∷ xs)) long ∙ ap (λ (l : List A). x ∷ l) (front_taken y xs)

  -- that is what is left of a list
  pub removed : (xs : List A) (k : ℕ) (some : A) → k < length xs → swap_remove xs k some ≡ less xs k
  unfolding less turned_round
  removed [] k some inside = absurd (omega (arith, inside))
  removed (x ∷ []) zero some inside = refl
  removed (x ∷ y ∷ xs) zero some inside =
      let long : length (x ∷ y ∷ xs) - 1 ≡ suc (length xs) = omega arith in
      ap (λ (n : ℕ). take n (get_or (x ∷ y ∷ xs) n some ∷ y ∷ xs)) long
      ∙ ap (λ (z : A). z ∷ take (length xs) (y ∷ xs)) (last_got y xs some)
      ∙ ap (λ (l : List A). last_of y xs ∷ l) (front_taken y xs)
  removed (x ∷ []) (suc k) some inside = absurd (omega (arith, inside))
  removed (x ∷ y ∷ xs) (suc k) some inside =
      let long : length (x ∷ y ∷ xs) - 1 ≡ suc (length xs) = omega arith in
      let later : length (y ∷ xs) - 1 ≡ length xs = omega arith in
      ap (λ (n : ℕ). take n (x ∷ slice_set (y ∷ xs) k (get_or (x ∷ y ∷ xs) n some))) long
      ∙ ap (λ (n : ℕ). x ∷ take n (slice_set (y ∷ xs) k (get_or (y ∷ xs) n some))) (sym later)
      ∙ ap (λ (l : List A). x ∷ l) (removed (y ∷ xs) k some (omega (arith, inside)))

  -- ---- what is said of its items

  weighs_round : (h : A → ℕ) (x : A) (xs : List A) → h (last_of x xs) + weigh h (before_last x xs) ≡ h x + weigh h xs
  unfolding last_of before_last
  weighs_round h x [] = refl
  weighs_round h x (y ∷ xs) = let rest = weighs_round h y xs in omega (arith, rest)

  pub often_less : (xs : List A) (k : ℕ) (x : A) → slice_get xs k ≡ Some x → AsOften xs (x ∷ less xs k)
  unfolding less turned_round
  often_less [] k x got h = absurd cc
  often_less (y ∷ []) zero x got h = let is : y ≡ x = cc in let same = ap h is in omega (arith, same)
  often_less (y ∷ z ∷ xs) zero x got h = let is : y ≡ x = cc in let same = ap h is in let round = weighs_round h z xs in omega (arith, same, round)
  often_less (y ∷ xs) (suc k) x got h = let rest = often_less xs k x got h in omega (arith, rest)

  module _ (P : A → Type 0) where
    each_round : (x : A) (xs : List A) → P x → AllByRecursion P xs → P (last_of x xs) × AllByRecursion P (before_last x xs)
    unfolding last_of before_last
    each_round x [] here each = (here, tt)
    each_round x (y ∷ xs) here each = let rest = each_round y xs each.0 each.1 in (rest.0, (here, rest.1))

    pub each_less : (xs : List A) (k : ℕ) → AllByRecursion P xs → AllByRecursion P (less xs k)
    unfolding less turned_round
    each_less [] k each = tt
    each_less (x ∷ []) zero each = tt
    each_less (x ∷ y ∷ xs) zero each = each_round y xs each.1.0 each.1.1
    each_less (x ∷ xs) (suc k) each = (each.0, each_less xs k each.1)

    pub each_one : (xs : List A) (k : ℕ) (x : A) → slice_get xs k ≡ Some x → AllByRecursion P xs → P x
    each_one [] k x got each = absurd cc
    each_one (y ∷ xs) zero x got each = let is : y ≡ x = cc in subst P is each.0
    each_one (y ∷ xs) (suc k) x got each = each_one xs k x got each.1

    some_round : (x : A) (xs : List A) → SomeOf P (x ∷ xs) → P (last_of x xs) ⊎ SomeOf P (before_last x xs)
    unfolding last_of before_last
    some_round x [] some = ⊎_elim (λ here. inl here) (λ none. absurd none) some
    some_round x (y ∷ xs) some = ⊎_elim (λ here. inr (inl here)) (λ later. ⊎_elim (λ last. inl last) (λ front. inr (inr front)) (some_round y xs later)) some

    -- some are so, so this one or one of the others is
    pub some_less : (xs : List A) (k : ℕ) (x : A) → slice_get xs k ≡ Some x → SomeOf P xs → P x ⊎ SomeOf P (less xs k)
    unfolding less turned_round
    some_less [] k x got some = absurd some
    some_less (y ∷ []) zero x got some = let is : y ≡ x = cc in ⊎_elim (λ here. inl (subst P is here)) (λ none. absurd none) some
    some_less (y ∷ z ∷ xs) zero x got some =
        let is : y ≡ x = cc in
        ⊎_elim (λ here. inl (subst P is here)) (λ later. inr (some_round z xs later)) some
    some_less (y ∷ xs) (suc k) x got some = ⊎_elim (λ here. inr (inl here)) (λ later. ⊎_elim (λ one. inl one) (λ other. inr (inr other)) (some_less xs k x got later)) some

    some_rounded : (x : A) (xs : List A) → P (last_of x xs) ⊎ SomeOf P (before_last x xs) → SomeOf P (x ∷ xs)
    unfolding last_of before_last
    some_rounded x [] some = ⊎_elim (λ here. inl here) (λ none. absurd none) some
    some_rounded x (y ∷ xs) some =
        ⊎_elim (λ last. inr (some_rounded y xs (inl last))) (λ front. ⊎_elim (λ here. inl here) (λ later. inr (some_rounded y xs (inr later))) front) some

    -- one of those that are left is one of all
    pub some_of_all : (xs : List A) (k : ℕ) → SomeOf P (less xs k) → SomeOf P xs
    unfolding less turned_round
    some_of_all [] k some = absurd some
    some_of_all (x ∷ []) zero some = absurd some
    some_of_all (x ∷ y ∷ xs) zero some = inr (some_rounded y xs some)
    some_of_all (x ∷ xs) (suc k) some = ⊎_elim (λ here. inl here) (λ later. inr (some_of_all xs k later)) some

  counted_round : (x : A) (xs : List A) → length (before_last x xs) ≡ length xs
  unfolding before_last
  counted_round x [] = refl
  counted_round x (y ∷ xs) = let rest = counted_round y xs in omega (arith, rest)

  pub counted_less : (xs : List A) (k : ℕ) (x : A) → slice_get xs k ≡ Some x → length xs ≡ length (less xs k) + 1
  unfolding less turned_round
  counted_less [] k x got = absurd cc
  counted_less (y ∷ []) zero x got = omega arith
  counted_less (y ∷ z ∷ xs) zero x got = let many = counted_round z xs in omega (arith, many)
  counted_less (y ∷ xs) (suc k) x got = let rest = counted_less xs k x got in omega (arith, rest)

-- ---- two lists, pair by pair

module _ {A B : Type 0} (R : A → B → Type 0) where
  pairs_round : (x : A) (xs : List A) (y : B) (ys : List B) → R x y → Pairs R xs ys → R (last_of x xs) (last_of y ys) × Pairs R (before_last x xs) (before_last y ys)
  unfolding last_of before_last
  pairs_round x [] y [] here pairs = (here, tt)
  pairs_round x [] y (w ∷ ys) here pairs = absurd pairs
  pairs_round x (v ∷ xs) y [] here pairs = absurd pairs
  pairs_round x (v ∷ xs) y (w ∷ ys) here pairs = let rest = pairs_round v xs w ys pairs.0 pairs.1 in (rest.0, (here, rest.1))

  pub pairs_less : (xs : List A) (ys : List B) (k : ℕ) → Pairs R xs ys → Pairs R (less xs k) (less ys k)
  unfolding less turned_round
  pairs_less [] [] k pairs = tt
  pairs_less [] (y ∷ ys) k pairs = absurd pairs
  pairs_less (x ∷ xs) [] k pairs = absurd pairs
  pairs_less (x ∷ []) (y ∷ []) zero pairs = tt
  pairs_less (x ∷ []) (y ∷ w ∷ ys) zero pairs = absurd pairs.1
  pairs_less (x ∷ v ∷ xs) (y ∷ []) zero pairs = absurd pairs.1
  pairs_less (x ∷ v ∷ xs) (y ∷ w ∷ ys) zero pairs = pairs_round v xs w ys pairs.1.0 pairs.1.1
  pairs_less (x ∷ xs) (y ∷ ys) (suc k) pairs = (pairs.0, pairs_less xs ys k pairs.1)

  -- what stands there in the first, for what stands there in the second
  pub record PairedAt (xs : List A) (k : ℕ) (y : B) : Type 0 where
    pub one : A
    pub is : slice_get xs k ≡ Some one
    pub pair : R one y

  pub paired_at : (xs : List A) (ys : List B) (k : ℕ) (y : B) → Pairs R xs ys → slice_get ys k ≡ Some y → PairedAt xs k y
  paired_at [] [] k y pairs got = absurd cc
  paired_at [] (w ∷ ys) k y pairs got = absurd pairs
  paired_at (x ∷ xs) [] k y pairs got = absurd pairs
  paired_at (x ∷ xs) (w ∷ ys) zero y pairs got = let is : w ≡ y = cc in record { one = x; is = refl; pair = subst (R x) is pairs.0 }
  paired_at (x ∷ xs) (w ∷ ys) (suc k) y pairs got = let rest = paired_at xs ys k y pairs.1 got in record { one = rest.one; is = rest.is; pair = rest.pair }

-- ---- of several lists, one without one of its items

module _ {A : Type 0} where
  abbrev pub all_in : List (List A) → List A
  all_in lists = flat_map (λ (xs : List A). xs) lists

  unfoldable pub less_in : ℕ → ℕ → List (List A) → List (List A)
  less_in n k [] = []
  less_in zero k (xs ∷ lists) = less xs k ∷ lists
  less_in (suc n) k (xs ∷ lists) = xs ∷ less_in n k lists

  -- it stands there in this one of them
  abbrev pub StandsIn : ℕ → ℕ → List (List A) → A → Type 0
  StandsIn n k [] x = ⊥
  StandsIn zero k (xs ∷ lists) x = slice_get xs k ≡ Some x
  StandsIn (suc n) k (xs ∷ lists) x = StandsIn n k lists x

  pub often_in : (n k : ℕ) (lists : List (List A)) (x : A) → StandsIn n k lists x → AsOften (all_in lists) (x ∷ all_in (less_in n k lists))
  unfolding less_in
  often_in n k [] x stands h = absurd stands
  often_in zero k (xs ∷ lists) x stands h = omega (arith, weigh-append h xs (all_in lists), weigh-append h (less xs k) (all_in lists), often_less xs k x stands h)
  often_in (suc n) k (xs ∷ lists) x stands h = omega (arith, weigh-append h xs (all_in lists), weigh-append h xs (all_in (less_in n k lists)), often_in n k lists x stands h)

  module _ (P : A → Type 0) where
    each_parted : (xs ys : List A) → AllByRecursion P (xs ++ ys) → AllByRecursion P xs × AllByRecursion P ys
    each_parted [] ys each = (tt, each)
    each_parted (x ∷ xs) ys each = let rest = each_parted xs ys each.1 in ((each.0, rest.0), rest.1)

    each_joined : (xs ys : List A) → AllByRecursion P xs → AllByRecursion P ys → AllByRecursion P (xs ++ ys)
    each_joined [] ys one other = other
    each_joined (x ∷ xs) ys one other = (one.0, each_joined xs ys one.1 other)

    pub each_in : (n k : ℕ) (lists : List (List A)) → AllByRecursion P (all_in lists) → AllByRecursion P (all_in (less_in n k lists))
    unfolding less_in
    each_in n k [] each = tt
    each_in zero k (xs ∷ lists) each = let parts = each_parted xs (all_in lists) each in each_joined (less xs k) (all_in lists) (each_less P xs k parts.0) parts.1
    each_in (suc n) k (xs ∷ lists) each = let parts = each_parted xs (all_in lists) each in each_joined xs (all_in (less_in n k lists)) parts.0 (each_in n k lists parts.1)

    pub one_in : (n k : ℕ) (lists : List (List A)) (x : A) → StandsIn n k lists x → AllByRecursion P (all_in lists) → P x
    one_in n k [] x stands each = absurd stands
    one_in zero k (xs ∷ lists) x stands each = each_one P xs k x stands (each_parted xs (all_in lists) each).0
    one_in (suc n) k (xs ∷ lists) x stands each = one_in n k lists x stands (each_parted xs (all_in lists) each).1

    pub some_in : (n k : ℕ) (lists : List (List A)) (x : A) → StandsIn n k lists x → SomeOf P (all_in lists) → P x ⊎ SomeOf P (all_in (less_in n k lists))
    unfolding less_in
    some_in n k [] x stands some = absurd stands
    some_in zero k (xs ∷ lists) x stands some =
        ⊎_elim (λ here. ⊎_elim (λ one. inl one) (λ other. inr (some_first P (less xs k) (all_in lists) other)) (some_less P xs k x stands here))
        (λ later. inr (some_behind P (less xs k) (all_in lists) later)) (some_parted P xs (all_in lists) some)
    some_in (suc n) k (xs ∷ lists) x stands some =
        ⊎_elim (λ here. inr (some_first P xs (all_in (less_in n k lists)) here))
        (λ later. ⊎_elim (λ one. inl one) (λ other. inr (some_behind P xs (all_in (less_in n k lists)) other)) (some_in n k lists x stands later)) (some_parted P xs (all_in lists) some)
