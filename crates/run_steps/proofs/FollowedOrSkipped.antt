-- What is known of files that were each followed or skipped: of one of them by its place, and of all of them as more is known of each.
use Rattle.std.proofs.Common.{◌≡◌, ◌⊎◌, inl, inr, ℕ, zero, suc, ◌+◌, ◌≤◌, List, [], ◌∷◌, length, Some, None, refl, ap, subst, arith}
use Rattle.std.specs.Prelude.{slice_get}
use Rattle.prospect.specs.declared.listed.Listed.{Listed}
use Rattle.report.specs.declared.passing.Passing.{Passing}
use Rattle.report.specs.declared.passing.Why.{Why}
use Rattle.run_steps.specs.FollowedOrSkipped.{FollowsOrSkips}

-- the file of this slot was skipped by an opening at this place or behind it
pub record IsSkippedSince (Skips : ℕ → Listed → ℕ → Why → Type 0) (place slot : ℕ) (one : Listed) : Type 0 where
  pub opening : ℕ
  pub since : place ≤ opening
  pub why : Why
  pub skips : Skips slot one opening why

module _ (Follows : ℕ → Listed → Type 0) (Skips : ℕ → Listed → ℕ → Why → Type 0) where
  skipped_before : (place next slot : ℕ) (one : Listed) → place ≤ next → Follows slot one ⊎ IsSkippedSince Skips next slot one → Follows slot one ⊎ IsSkippedSince Skips place slot one
  skipped_before place next slot one later (inl follows) = inl follows
  skipped_before place next slot one later (inr skipped) =
      inr (record { opening = skipped.opening; since = let since = skipped.since in omega (arith, later, since); why = skipped.why; skips = skipped.skips })

  -- the file at this place of the list was either
  pub came_so : (slot place : ℕ) (listed : List Listed) (passed : List Passing) → FollowsOrSkips Follows Skips slot place listed passed → (k : ℕ) (one : Listed) → slice_get listed k ≡ Some one →
      Follows (slot + k) one ⊎ IsSkippedSince Skips place (slot + k) one
  came_so slot place [] passed all k one at = absurd (let q : None ≡ Some one = at in cc)
  came_so slot place (first ∷ listed) passed all zero one at = subst (λ (n : ℕ). Follows n one ⊎ IsSkippedSince Skips place n one) here (subst (λ (l : Listed). Follows slot l ⊎ IsSkippedSince Skips place slot l) same (by_case all))
    where
      here : slot ≡ slot + 0
      here = omega arith

      same : first ≡ one
      same = let q : Some first ≡ Some one = at in cc

      by_case : FollowsOrSkips Follows Skips slot place (first ∷ listed) passed → Follows slot first ⊎ IsSkippedSince Skips place slot first
      by_case (inl follows) = inl follows.0
      by_case (inr skips) = inr (record { opening = skips.opening; since = skips.since; why = skips.why; skips = skips.skips })
  came_so slot place (first ∷ listed) passed (inl follows) (suc k) one at =
      let here : suc slot + k ≡ slot + suc k = omega arith in
      subst (λ (n : ℕ). Follows n one ⊎ IsSkippedSince Skips place n one) here (came_so (suc slot) place listed passed follows.1 k one at)
  came_so slot place (first ∷ listed) passed (inr skips) (suc k) one at =
      let here : suc slot + k ≡ slot + suc k = omega arith in
      let since = skips.since in
      subst (λ (n : ℕ). Follows n one ⊎ IsSkippedSince Skips place n one) here
      (skipped_before place (suc skips.opening) (suc slot + k) one (omega (arith, since)) (came_so (suc slot) (suc skips.opening) listed skips.later skips.rest k one at))

  -- ---- where as many paths were told as there are files

  at_most : (slot place : ℕ) (listed : List Listed) (passed : List Passing) → FollowsOrSkips Follows Skips slot place listed passed → length passed ≤ length listed
  at_most slot place [] passed all = omega (arith, ap (λ (l : List Passing). length l) all)
  at_most slot place (first ∷ listed) passed (inl follows) = let rest = at_most (suc slot) place listed passed follows.1 in omega (arith, rest)
  at_most slot place (first ∷ listed) passed (inr skips) =
      let rest = at_most (suc slot) (suc skips.opening) listed skips.later skips.rest in
      let are = ap (λ (l : List Passing). length l) skips.passed_are in
      omega (arith, rest, are)

  -- none of them was followed
  pub none_followed : (slot place : ℕ) (listed : List Listed) (passed : List Passing) → FollowsOrSkips Follows Skips slot place listed passed → length passed ≡ length listed →
      FollowsOrSkips (λ slot one. ⊥) Skips slot place listed passed
  none_followed slot place [] passed all as_many = all
  none_followed slot place (first ∷ listed) passed (inl follows) as_many =
      absurd (let rest = at_most (suc slot) place listed passed follows.1 in omega (arith, rest, as_many))
  none_followed slot place (first ∷ listed) passed (inr skips) as_many =
      let are = ap (λ (l : List Passing). length l) skips.passed_are in
      inr (record {
        opening = skips.opening;
        since = skips.since;
        why = skips.why;
        skips = skips.skips;
        later = skips.later;
        passed_are = skips.passed_are;
        rest = none_followed (suc slot) (suc skips.opening) listed skips.later skips.rest (omega (arith, as_many, are));
      })

  module _ (FollowsThen : ℕ → Listed → Type 0) (SkipsThen : ℕ → Listed → ℕ → Why → Type 0) (At : ℕ → Listed → Type 0) (least : ℕ)
      (followed : (slot : ℕ) (one : Listed) → At slot one → Follows slot one → FollowsThen slot one)
      (skipped : (slot : ℕ) (one : Listed) (opening : ℕ) (why : Why) → At slot one → least ≤ opening → Skips slot one opening why → SkipsThen slot one opening why) where
    here : (slot : ℕ) (first : Listed) (listed : List Listed) → ((k : ℕ) (one : Listed) → slice_get (first ∷ listed) k ≡ Some one → At (slot + k) one) → At slot first
    here slot first listed at = let same : slot + 0 ≡ slot = omega arith in subst (λ (n : ℕ). At n first) same (at 0 first refl)

    later : (slot : ℕ) (first : Listed) (listed : List Listed) → ((k : ℕ) (one : Listed) → slice_get (first ∷ listed) k ≡ Some one → At (slot + k) one) → (k : ℕ) (one : Listed) → slice_get listed k ≡ Some one →
        At (suc slot + k) one
    later slot first listed at k one is = let same : slot + suc k ≡ suc slot + k = omega arith in subst (λ (n : ℕ). At n one) same (at (suc k) one is)

    -- all of them were so, where each of them was
    pub each_then_so : (slot place : ℕ) (listed : List Listed) (passed : List Passing) → least ≤ place → ((k : ℕ) (one : Listed) → slice_get listed k ≡ Some one → At (slot + k) one) →
        FollowsOrSkips Follows Skips slot place listed passed → FollowsOrSkips FollowsThen SkipsThen slot place listed passed
    each_then_so slot place [] passed within at all = all
    each_then_so slot place (first ∷ listed) passed within at (inl follows) =
        inl (followed slot first (here slot first listed at) follows.0, each_then_so (suc slot) place listed passed within (later slot first listed at) follows.1)
    each_then_so slot place (first ∷ listed) passed within at (inr skips) =
        let since = skips.since in
        inr (record {
          opening = skips.opening;
          since = skips.since;
          why = skips.why;
          skips = skipped slot first skips.opening skips.why (here slot first listed at) (omega (arith, within, since)) skips.skips;
          later = skips.later;
          passed_are = skips.passed_are;
          rest = each_then_so (suc slot) (suc skips.opening) listed skips.later (omega (arith, within, since)) (later slot first listed at) skips.rest;
        })
