-- A clock that was asked long before a run and gives the run one later moment: this is the only one of the run, so that nothing of it lies
-- apart. Where the run's first moment is the one that the clock had given last, the clock told nothing then, and both are of the run; but not
-- where the clock was asked only once in the run.
use Rattle.std.proofs.Common.{◌≡◌, inl, inr, ℕ, List, [], ◌∷◌, Some, refl, lit<, arith}
use Rattle.outside.specs.Times.{EndsWith}
use Rattle.run_steps.specs.AccountedFor.{AreMomentsSince, BeginWith}
use Rattle.run_steps.specs.Questions.{WasAskedFor}

abbrev before : List ℕ
before = 0 ∷ []

abbrev after : List ℕ
after = 0 ∷ 60_000 ∷ []

ends_otherwise : EndsWith before 60_000 → ⊥
ends_otherwise ends = let q : Some 0 ≡ Some 60_000 = ends in cc

appended : AreMomentsSince (Some before) (Some after) (60_000 ∷ [])
appended = inr (record { first = 60_000; later = []; moments_are = refl; first_is = inr (ends_otherwise, refl) })

found : AreMomentsSince (Some before) (Some after) after
found = inr (record { first = 0; later = 60_000 ∷ []; moments_are = refl; first_is = inl (refl, refl) })

-- a run that scanned at the later moment did not find the earlier one
earlier_is_refused : BeginWith 60_000 after → ⊥
earlier_is_refused begin = let q : 0 ∷ 60_000 ∷ [] ≡ 60_000 ∷ begin.later = begin.are in cc

-- nor is a moment left out that the clock appended
left_out_is_refused : AreMomentsSince (Some before) (Some after) [] → ⊥
left_out_is_refused (inl none) = let q : 0 ∷ 60_000 ∷ [] ≡ 0 ∷ [] = none.1 in cc
left_out_is_refused (inr since) = let q : [] ≡ since.first ∷ since.later = since.moments_are in cc

-- a run that asked nothing has no moment
unasked : AreMomentsSince (Some before) (Some before) []
unasked = inl (refl, refl)

-- ---- how often it was asked, where it had been asked once before

-- once in the run, for the later moment
asked_once : WasAskedFor 1 2 (60_000 ∷ [])
asked_once few = omega arith

-- and not for both
not_asked_for_both : WasAskedFor 1 2 after → ⊥
not_asked_for_both asked = let most = asked (lit< tt) in omega (arith, most)

-- twice, so that it may have given the earlier one again
asked_twice : WasAskedFor 1 3 after
asked_twice few = omega arith

-- a count at its end says nothing
saturated : WasAskedFor 0 18_446_744_073_709_551_615 after
saturated few = omega (arith, few)
