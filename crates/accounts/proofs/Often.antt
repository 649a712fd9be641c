-- What lists have in common that have the same items, each as often.
use Rattle.std.proofs.Common.{◌≡◌, ◌⊎◌, inl, inr, ℕ, zero, suc, ◌+◌, ◌<◌, ◌≤◌, Bool, true, false, List, [], ◌∷◌, ◌++◌, Contains, Some, length, refl, sym, ap, subst, ◌∙◌, arith}
use Rattle.std.specs.Prelude.{slice_get}
use Rattle.pass_sums.proofs.Weights.{weigh-append}
use Rattle.pass_sums.specs.Weight.{AsOften, weigh}
use Rattle.ship_core.proofs.Members.{first_there, later_there, none_there, there_cases}
use Rattle.accounts.specs.Once.{AreOnce, count_of, one_where}
use Rattle.accounts.specs.Same.{TellsSame}

-- ---- their length

weigh_ones : {A : Type 0} (xs : List A) → weigh (λ _. 1) xs ≡ length xs
weigh_ones [] = refl
weigh_ones (x ∷ xs) = omega (arith, weigh_ones xs)

pub often_counted : {A : Type 0} (xs ys : List A) → AsOften xs ys → length xs ≡ length ys
often_counted xs ys often = sym (weigh_ones xs) ∙ often (λ _. 1) ∙ weigh_ones ys

-- ---- put together

pub often_same : {A : Type 0} (xs ys : List A) → xs ≡ ys → AsOften xs ys
often_same xs ys same h = ap (weigh h) same

pub often_then : {A : Type 0} (xs ys zs : List A) → AsOften xs ys → AsOften ys zs → AsOften xs zs
often_then xs ys zs first then h = first h ∙ then h

pub often_back : {A : Type 0} (xs ys : List A) → AsOften xs ys → AsOften ys xs
often_back xs ys often h = sym (often h)

pub often_both : {A : Type 0} (xs ys more others : List A) → AsOften xs ys → AsOften more others → AsOften (xs ++ more) (ys ++ others)
often_both xs ys more others first then h = omega (arith, weigh-append h xs more, weigh-append h ys others, first h, then h)

-- ---- what is in them, by a test

module _ {A : Type 0} (same : A → A → Bool) (is : TellsSame same) where
  pub there_counts : (xs : List A) (x : A) → Contains xs x → 0 < count_of same x xs
  there_counts [] x there = absurd (none_there x there)
  there_counts (first ∷ xs) x there = by_case (there_cases first x xs there) (there_counts xs x)
    where
      by_case : (first ≡ x) ⊎ Contains xs x → (Contains xs x → 0 < count_of same x xs) → 0 < count_of same x (first ∷ xs)
      by_case (inl here) counts =
          let one : one_where (same first x) ≡ 1 = ap one_where (ap (λ (y : A). same y x) here ∙ is.itself x) in omega (arith, one)
      by_case (inr later) counts = omega (arith, counts later)

  counted_there : (xs : List A) (x : A) → 0 < count_of same x xs → Contains xs x
  counted_there [] x some = absurd (omega (arith, some))
  counted_there (first ∷ xs) x some = by_case (same first x) refl (counted_there xs x)
    where
      by_case : (b : Bool) → same first x ≡ b → (0 < count_of same x xs → Contains xs x) → Contains (first ∷ xs) x
      by_case true here there = subst (λ (y : A). Contains (first ∷ xs) y) (is.tells first x here) (first_there first xs)
      by_case false other there =
          let none : one_where (same first x) ≡ 0 = ap one_where other in
          later_there first x xs (there (omega (arith, some, none)))

  pub often_contains : (xs ys : List A) (x : A) → AsOften xs ys → Contains ys x → Contains xs x
  often_contains xs ys x often there =
      let counts : count_of same x xs ≡ count_of same x ys = often (λ other. one_where (same other x)) in
      counted_there xs x (omega (arith, counts, there_counts ys x there))

  pub once_in : (xs front behind : List A) → AsOften xs (front ++ behind) → AreOnce same xs → AreOnce same behind
  once_in xs front behind often once one =
      let h = λ (other : A). one_where (same other one) in
      let counts : count_of same one xs ≡ count_of same one (front ++ behind) = often h in
      let all : count_of same one (front ++ behind) ≡ count_of same one front + count_of same one behind = weigh-append h front behind in
      omega (arith, counts, all, once one)

  pub once_front : (front behind : List A) → AreOnce same (front ++ behind) → AreOnce same front
  once_front front behind once one = omega (arith, weigh-append (λ (other : A). one_where (same other one)) front behind, once one)

  pub once_behind : (front behind : List A) → AreOnce same (front ++ behind) → AreOnce same behind
  once_behind front behind once one = omega (arith, weigh-append (λ (other : A). one_where (same other one)) front behind, once one)

  pub once_often : (xs ys : List A) → AsOften xs ys → AreOnce same xs → AreOnce same ys
  once_often xs ys often once one =
      let counts : count_of same one xs ≡ count_of same one ys = often (λ other. one_where (same other one)) in
      omega (arith, counts, once one)

  pub once_none : AreOnce same []
  once_none one = omega arith

  none_counts : (xs : List A) (x : A) → (Contains xs x → ⊥) → count_of same x xs ≡ 0
  none_counts xs x not = by_case (count_of same x xs) refl
    where
      by_case : (count : ℕ) → count_of same x xs ≡ count → count_of same x xs ≡ 0
      by_case zero e = e
      by_case (suc n) e = absurd (not (counted_there xs x (omega (arith, e))))

  -- no item of one is in the other
  pub once_both : (xs ys : List A) → AreOnce same xs → AreOnce same ys → ((x : A) → Contains xs x → Contains ys x → ⊥) → AreOnce same (xs ++ ys)
  once_both xs ys left right apart one = by_case (count_of same one xs) refl
    where
      by_case : (count : ℕ) → count_of same one xs ≡ count → count_of same one (xs ++ ys) ≤ 1
      by_case zero none = omega (arith, weigh-append (λ (other : A). one_where (same other one)) xs ys, none, right one)
      by_case (suc n) some =
          let there : Contains xs one = counted_there xs one (omega (arith, some)) in
          let none : count_of same one ys ≡ 0 = none_counts ys one (apart one there) in
          omega (arith, weigh-append (λ (other : A). one_where (same other one)) xs ys, none, left one)

  -- one more, which is not among the others
  pub once_more : (x : A) (xs : List A) → (Contains xs x → ⊥) → AreOnce same xs → AreOnce same (x ∷ xs)
  once_more x xs not once one = by_case (same x one) refl
    where
      by_case : (b : Bool) → same x one ≡ b → count_of same one (x ∷ xs) ≤ 1
      by_case true here =
          let counts : one_where (same x one) ≡ 1 = ap one_where here in
          let others : count_of same one xs ≡ 0 = subst (λ (y : A). count_of same y xs ≡ 0) (is.tells x one here) (none_counts xs x not) in
          omega (arith, counts, others)
      by_case false other =
          let counts : one_where (same x one) ≡ 0 = ap one_where other in
          omega (arith, counts, once one)

  pub once_apart : (x : A) (xs : List A) → AreOnce same (x ∷ xs) → Contains xs x → ⊥
  once_apart x xs once there =
      let counts : one_where (same x x) ≡ 1 = ap one_where (is.itself x) in
      omega (arith, counts, once x, there_counts xs x there)

  pub once_others : (x : A) (xs : List A) → AreOnce same (x ∷ xs) → AreOnce same xs
  once_others x xs once one = omega (arith, once one)

  got_there : (xs : List A) (k : ℕ) (x : A) → slice_get xs k ≡ Some x → Contains xs x
  got_there [] k x at = absurd cc
  got_there (first ∷ xs) zero x at =
      let here : first ≡ x = cc in subst (λ (y : A). Contains (first ∷ xs) y) here (first_there first xs)
  got_there (first ∷ xs) (suc k) x at = later_there first x xs (got_there xs k x at)

  -- it has one place
  pub once_at : (xs : List A) (x : A) (k other : ℕ) → AreOnce same xs → slice_get xs k ≡ Some x → slice_get xs other ≡ Some x → k ≡ other
  once_at [] x k other once at there = absurd cc
  once_at (first ∷ xs) x zero zero once at there = refl
  once_at (first ∷ xs) x zero (suc other) once at there =
      let here : first ≡ x = cc in
      absurd (once_apart first xs once (subst (λ (y : A). Contains xs y) (sym here) (got_there xs other x there)))
  once_at (first ∷ xs) x (suc k) zero once at there =
      let here : first ≡ x = cc in
      absurd (once_apart first xs once (subst (λ (y : A). Contains xs y) (sym here) (got_there xs k x at)))
  once_at (first ∷ xs) x (suc k) (suc other) once at there = ap suc (once_at xs x k other (once_others first xs once) at there)

-- ---- lists that go on

pub front_more : {A : Type 0} (xs after others more : List A) → after ≡ xs ++ more → AsOften (after ++ others) ((xs ++ others) ++ more)
front_more xs after others more on h = omega (
  arith,
  weigh-append h after others,
  ap (weigh h) on,
  weigh-append h xs more,
  weigh-append h (xs ++ others) more,
  weigh-append h xs others,
)

pub behind_more : {A : Type 0} (front xs after more : List A) → AsOften after (xs ++ more) → AsOften (front ++ after) ((front ++ xs) ++ more)
behind_more front xs after more often h =
    omega (arith, weigh-append h front after, often h, weigh-append h xs more, weigh-append h (front ++ xs) more, weigh-append h front xs)

pub more_then : {A : Type 0} (xs mid after first then : List A) → AsOften mid (xs ++ first) → AsOften after (mid ++ then) → AsOften after (xs ++ (first ++ then))
more_then xs mid after first then one two h = omega (
  arith,
  two h,
  weigh-append h mid then,
  one h,
  weigh-append h xs first,
  weigh-append h xs (first ++ then),
  weigh-append h first then,
)

pub none_more : {A : Type 0} (xs : List A) → AsOften xs (xs ++ [])
none_more xs h = omega (arith, weigh-append h xs [])
