-- The run that is made of what objects told fits them.
use Rattle.std.proofs.Common.{◌≡◌, ◌⊎◌, inl, inr, ℕ, List, ◌∷◌, ◌++◌, Option, Some, None, IsSome, refl}
use Rattle.outside.specs.Times.{EndsWith}
use Rattle.run_steps.specs.AccountedFor.{AreMomentsSince, BeginWith}
use Rattle.run_steps.specs.Shown.{GaveSince, HasGiven}
use Rattle.told_scans.proofs.Members.{some_is}

-- the first moment was the last one before, or it was appended
first_so : (before after : List ℕ) (moment : ℕ) (later : List ℕ) → GaveSince before (Some after) moment later →
    (EndsWith before moment × (after ≡ before ++ later)) ⊎ ((¬ (EndsWith before moment)) × (after ≡ before ++ moment ∷ later))
first_so before after moment later (inl last) = inl (last.0, some_is after (before ++ later) last.1)
first_so before after moment later (inr appended) = inr (appended.0, some_is after (before ++ moment ∷ later) appended.1)

pub moments_since : (before after : Option (List ℕ)) (moment : ℕ) (since : List ℕ) → HasGiven before after moment since → IsSome after → AreMomentsSince before after since
moments_since None None moment since given tells = absurd cc
moments_since None (Some after) moment since given tells = absurd (let q : Some after ≡ None = given.untold refl in cc)
moments_since (Some before) None moment since given tells = absurd cc
moments_since (Some before) (Some after) moment since given tells =
    inr (record { first = moment; later = given.told.0; moments_are = given.told.1; first_is = first_so before after moment given.told.0 given.told.2 })

-- the moment that it gave first is the first of them
pub first_since : (before after : Option (List ℕ)) (moment : ℕ) (since : List ℕ) → HasGiven before after moment since → IsSome after → BeginWith moment since
first_since None None moment since given tells = absurd cc
first_since None (Some after) moment since given tells = absurd (let q : Some after ≡ None = given.untold refl in cc)
first_since (Some before) after moment since given tells = record { later = given.told.0; are = given.told.1 }
