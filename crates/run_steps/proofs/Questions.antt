-- Questions of clock and bell, one after the other.
use Rattle.std.proofs.Common.{◌≡◌, ◌⊎◌, inl, inr, ℕ, ◌+◌, ◌-◌, ◌^◌, ◌<◌, ◌≤◌, List, [], ◌∷◌, ◌++◌, length, Option, Some, None, sym, ap, subst, ◌∙◌, length-append, arith}
use Rattle.outside.specs.Counts.{next_count}
use Rattle.outside.specs.Times.{EndsWith, GivesMoment}
use Rattle.run_steps.specs.AccountedFor.{AreGivenSince, AreMomentsSince, BeginWith}
use Rattle.run_steps.specs.Questions.{AsksOn, Questions, WasAskedFor, count_given}

pub asks_nothing : (more : ℕ) (now : Questions) → AsksOn more now now
asks_nothing more now = record { clock = omega arith; bell = omega arith; as_often = λ few_clock few_bell. omega arith; gives = λ few. omega arith }

pub asks_by_two : (more then : ℕ) (first mid last : Questions) → AsksOn more first mid → AsksOn then mid last → AsksOn (more + then) first last
asks_by_two more then first mid last one other = record {
  clock = let before = one.clock in let after = other.clock in omega (arith, before, after);
  bell = let before = one.bell in let after = other.bell in omega (arith, before, after);
  as_often = λ few_clock few_bell.
      let clock = other.clock in
      let bell = other.bell in
      let before = one.as_often (omega (arith, few_clock, clock)) (omega (arith, few_bell, bell)) in
      let after = other.as_often few_clock few_bell in
      omega (arith, before, after);
  gives = λ few.
      let clock = other.clock in
      let before = one.gives (omega (arith, few, clock)) in
      let after = other.gives few in
      omega (arith, before, after);
}

-- only the bell was
pub asks_the_bell : (now after : Questions) → after.clock ≡ now.clock → after.bell ≡ next_count now.bell → after.given ≡ now.given → AsksOn 1 now after
asks_the_bell now after clock bell given = record {
  clock = omega (arith, clock);
  bell = omega (arith, bell);
  as_often = λ few_clock few_bell. omega (arith, clock, bell, few_bell);
  gives = λ few. omega (arith, clock, given);
}

-- the clock is asked after the bell
pub asks_both : (now after : Questions) → after.clock ≡ next_count now.clock → after.bell ≡ next_count now.bell → after.given ≤ now.given + 1 → AsksOn 0 now after
asks_both now after clock bell given = record {
  clock = omega (arith, clock);
  bell = omega (arith, bell);
  as_often = λ few_clock few_bell. omega (arith, clock, bell, few_clock, few_bell);
  gives = λ few. omega (arith, clock, few, given);
}

-- the clock was asked before
pub asks_behind_the_clock : (first mid last : Questions) → mid.clock ≡ next_count first.clock → mid.bell ≡ first.bell → mid.given ≤ first.given + 1 → AsksOn 1 mid last → AsksOn 0 first last
asks_behind_the_clock first mid last clock bell given then = record {
  clock = let later = then.clock in omega (arith, clock, later);
  bell = let later = then.bell in omega (arith, bell, later);
  as_often = λ few_clock few_bell.
      let later = then.clock in
      let after = then.as_often few_clock few_bell in
      omega (arith, clock, bell, later, after, few_clock);
  gives = λ few.
      let later = then.clock in
      let after = then.gives few in
      omega (arith, clock, later, after, few, given);
}

-- ---- the moments that a clock gives

-- asked once it gives one more, or the last one again
pub given_once : (before : Option (List ℕ)) (moment : ℕ) (after : Option (List ℕ)) → GivesMoment before moment after → count_given after ≤ count_given before + 1
given_once None moment after gives = subst (λ (o : Option (List ℕ)). count_given o ≤ 1) (sym gives) (omega arith)
given_once (Some moments) moment after (inl same) = subst (λ (o : Option (List ℕ)). count_given o ≤ length moments + 1) (sym same.1) (omega arith)
given_once (Some moments) moment after (inr grows) =
    subst (λ (o : Option (List ℕ)). count_given o ≤ length moments + 1) (sym grows.1) (let long = length-append moments (moment ∷ []) in omega (arith, long))

-- the run's first moment was asked for once, and those behind it as often as they are told
module _ (first mid last : ℕ) (once : mid ≡ next_count first) (on : mid ≤ last) where
  asked_so : (moments more : List ℕ) (moment : ℕ) → moments ≡ moment ∷ more → (last < 2 ^ 64 - 1 → length more + mid ≤ last) → WasAskedFor first last moments
  asked_so moments more moment are gives few =
      let long = ap length are in
      let behind = gives few in
      omega (arith, long, behind, once, on, few)

  module _ (before after : List ℕ) (moment : ℕ) (moments : List ℕ) (begin : BeginWith moment moments) where
    same_first : (first_one : ℕ) (later : List ℕ) → moments ≡ first_one ∷ later → first_one ≡ moment
    same_first first_one later are = let q : first_one ∷ later ≡ moment ∷ begin.later = sym are ∙ begin.are in cc

    by_given : (then : Option (List ℕ)) → GivesMoment (Some before) moment then → (last < 2 ^ 64 - 1 → length after + mid ≤ last + count_given then) → AreGivenSince before after moments → WasAskedFor first last moments
    by_given then (inl same) gives since = by_first since.first_is
      where
        is_first : since.first ≡ moment
        is_first = same_first since.first since.later since.moments_are

        by_first : (EndsWith before since.first × (after ≡ before ++ since.later)) ⊎ ((¬ (EndsWith before since.first)) × (after ≡ before ++ since.first ∷ since.later)) → WasAskedFor first last moments
        by_first (inl found) = asked_so moments since.later since.first since.moments_are
            (λ few.
            let behind = subst (λ (o : Option (List ℕ)). length after + mid ≤ last + count_given o) same.1 (gives few) in
            let long = ap length found.1 ∙ length-append before since.later in
            omega (arith, behind, long))
        by_first (inr appended) = absurd (appended.0 (subst (EndsWith before) (sym is_first) same.0))
    by_given then (inr grows) gives since = by_first since.first_is
      where
        is_first : since.first ≡ moment
        is_first = same_first since.first since.later since.moments_are

        by_first : (EndsWith before since.first × (after ≡ before ++ since.later)) ⊎ ((¬ (EndsWith before since.first)) × (after ≡ before ++ since.first ∷ since.later)) → WasAskedFor first last moments
        by_first (inl found) = absurd (grows.0 (subst (EndsWith before) is_first found.0))
        by_first (inr appended) = asked_so moments since.later since.first since.moments_are
            (λ few.
            let behind = subst (λ (o : Option (List ℕ)). length after + mid ≤ last + count_given o) grows.1 (gives few) in
            let told = length-append before (moment ∷ []) in
            let long = ap length appended.1 ∙ length-append before (since.first ∷ since.later) in
            omega (arith, behind, told, long))

  -- so the clock was asked for each moment that the run was given
  pub was_asked_for : (before then after : Option (List ℕ)) (moment : ℕ) (moments : List ℕ) → GivesMoment before moment then → BeginWith moment moments → AreMomentsSince before after moments →
      (last < 2 ^ 64 - 1 → count_given after + mid ≤ last + count_given then) → WasAskedFor first last moments
  was_asked_for None then after moment moments given begin since gives = absurd since
  was_asked_for (Some before) then None moment moments given begin since gives = absurd since
  was_asked_for (Some before) then (Some after) moment moments given begin (inl none) gives = absurd (let q : moment ∷ begin.later ≡ [] = sym begin.are ∙ none.0 in cc)
  was_asked_for (Some before) then (Some after) moment moments given begin (inr since) gives = by_given before after moment moments begin then given gives since
