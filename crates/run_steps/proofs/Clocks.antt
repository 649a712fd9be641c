-- A clock goes on over any number of steps.
use Rattle.std.proofs.Common.{inl, inr, ℕ, List, [], ◌∷◌, ◌++◌, Option, Some, None, append-nil, append_assoc, refl, sym, ap, subst, ◌∙◌}
use Rattle.outside.specs.Times.{GivesMoment}
use Rattle.run_steps.specs.ClockOn.{MomentsGoOn}

pub clock_stays : (moments : Option (List ℕ)) → MomentsGoOn moments moments
clock_stays None = refl
clock_stays (Some moments) = ([], ap (λ (l : List ℕ). Some l) (sym (append-nil moments)))

pub clock_by_two : (before mid after : Option (List ℕ)) → MomentsGoOn before mid → MomentsGoOn mid after → MomentsGoOn before after
clock_by_two None mid after first then = subst (λ (o : Option (List ℕ)). MomentsGoOn o after) first then
clock_by_two (Some moments) mid after first then =
    let more = subst (λ (o : Option (List ℕ)). MomentsGoOn o after) first.1 then in
    (first.0 ++ more.0, more.1 ∙ ap (λ (l : List ℕ). Some l) (append_assoc moments first.0 more.0))

pub clock_by_moment : (before : Option (List ℕ)) (moment : ℕ) (after : Option (List ℕ)) → GivesMoment before moment after → MomentsGoOn before after
clock_by_moment None moment after gives = gives
clock_by_moment (Some moments) moment after (inl same) = ([], same.1 ∙ ap (λ (l : List ℕ). Some l) (sym (append-nil moments)))
clock_by_moment (Some moments) moment after (inr grows) = (moment ∷ [], grows.1)
