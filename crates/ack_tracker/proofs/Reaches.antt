-- How far a file has come, against the least that makes it go.
use Rattle.std.proofs.Common.{◌≡◌, ◌⊎◌, inl, inr, ℕ, ◌<◌, ◌≤◌, Bool, true, false, Option, Some, None, if◌then◌else◌, ◌&&◌, ◌||◌, ◌==◌, nat_lt, nat_le, refl, sym, ◌∙◌, arith}
use Rattle.std.proofs.lemmas.Bool.{cases_order, cases_lt, and_parts, and_from, or_cases, or_left, or_right, eqb-true, eq-eqb, ltb-true, lt-ltb, leb-true, le-leb}
use Rattle.ack_tracker.specs.FileState.{is_reached, lesser}
use Rattle.ack_tracker.specs.declared.reach.Reach.{Reach}

abbrev NotAbove : ℕ → ℕ → ℕ → ℕ → Type 0
NotAbove epoch end later further = (epoch < later) ⊎ ((epoch ≡ later) × (end ≤ further))

reached_means : (reach : Reach) (epoch end : ℕ) → is_reached (Some reach) epoch end ≡ true → NotAbove reach.epoch reach.end epoch end
reached_means reach epoch end e = by_case (or_cases (nat_lt reach.epoch epoch) ((reach.epoch == epoch) && nat_le reach.end end) e)
  where
    by_case : (nat_lt reach.epoch epoch ≡ true) ⊎ (((reach.epoch == epoch) && nat_le reach.end end) ≡ true) → NotAbove reach.epoch reach.end epoch end
    by_case (inl below) = inl (ltb-true reach.epoch epoch below)
    by_case (inr both) = let parts = and_parts (reach.epoch == epoch) (nat_le reach.end end) both in inr (eqb-true reach.epoch epoch parts.0, leb-true reach.end end parts.1)

means_reached : (reach : Reach) (epoch end : ℕ) → NotAbove reach.epoch reach.end epoch end → is_reached (Some reach) epoch end ≡ true
means_reached reach epoch end (inl below) = or_left (nat_lt reach.epoch epoch) ((reach.epoch == epoch) && nat_le reach.end end) (lt-ltb reach.epoch epoch below)
means_reached reach epoch end (inr both) =
    or_right (nat_lt reach.epoch epoch) ((reach.epoch == epoch) && nat_le reach.end end)
    (and_from (reach.epoch == epoch) (nat_le reach.end end) (eq-eqb reach.epoch epoch both.0) (le-leb reach.end end both.1))

no_further : (epoch end later further last beyond : ℕ) → NotAbove epoch end later further → NotAbove later further last beyond → NotAbove epoch end last beyond
no_further epoch end later further last beyond (inl one) (inl two) = inl (omega arith)
no_further epoch end later further last beyond (inl one) (inr two) = inl (omega (arith, one, two.0))
no_further epoch end later further last beyond (inr one) (inl two) = inl (omega (arith, one.0, two))
no_further epoch end later further last beyond (inr one) (inr two) = inr (one.0 ∙ two.0, omega (arith, one.1, two.1))

-- what was reached stays reached from a place that is not above
pub reached_on : (least : Option Reach) (epoch end later further : ℕ) → (epoch < later) ⊎ ((epoch ≡ later) × (end ≤ further)) → is_reached least epoch end ≡ true → is_reached least later further ≡ true
reached_on None epoch end later further on e = e
reached_on (Some reach) epoch end later further on e = means_reached reach later further (no_further reach.epoch reach.end epoch end later further (reached_means reach epoch end e) on)

not_above_else : (one other : Reach) → is_reached (Some one) other.epoch other.end ≡ false → NotAbove other.epoch other.end one.epoch one.end
not_above_else one other e = by_epoch (cases_order one.epoch other.epoch)
  where
    no : NotAbove one.epoch one.end other.epoch other.end → NotAbove other.epoch other.end one.epoch one.end
    no is = absurd (let q : true ≡ false = sym (means_reached one other.epoch other.end is) ∙ e in cc)

    by_end : one.epoch ≡ other.epoch → (other.end < one.end) ⊎ (one.end ≤ other.end) → NotAbove other.epoch other.end one.epoch one.end
    by_end same (inl below) = inr (sym same, omega (arith, below))
    by_end same (inr le) = no (inr (same, le))

    by_epoch : (one.epoch ≡ other.epoch) ⊎ ((one.epoch < other.epoch) ⊎ (other.epoch < one.epoch)) → NotAbove other.epoch other.end one.epoch one.end
    by_epoch (inl same) = by_end same (cases_lt other.end one.end)
    by_epoch (inr (inl below)) = no (inl below)
    by_epoch (inr (inr above)) = inl above

-- of two tests of which the second implies the first, either holds where the first does
either_first : (a b : Bool) → (b ≡ true → a ≡ true) → a ≡ (a || b)
either_first true b h = refl
either_first false true h = h refl
either_first false false h = refl

either_second : (a b : Bool) → (a ≡ true → b ≡ true) → b ≡ (a || b)
either_second true b h = h refl
either_second false b h = refl

-- the lesser of two is reached where either is
pub lesser_reached : (least : Option Reach) (reach : Reach) (epoch end : ℕ) → is_reached (Some (lesser least reach)) epoch end ≡ (is_reached least epoch end || is_reached (Some reach) epoch end)
lesser_reached None reach epoch end = refl
lesser_reached (Some other) reach epoch end = by_case (is_reached (Some other) reach.epoch reach.end) refl
  where
    by_case : (b : Bool) → is_reached (Some other) reach.epoch reach.end ≡ b → is_reached (Some (if b then other else reach)) epoch end ≡ (is_reached (Some other) epoch end || is_reached (Some reach) epoch end)
    by_case true e = either_first (is_reached (Some other) epoch end) (is_reached (Some reach) epoch end)
        (λ reached. means_reached other epoch end (no_further other.epoch other.end reach.epoch reach.end epoch end (reached_means other reach.epoch reach.end e) (reached_means reach epoch end reached)))
    by_case false e = either_second (is_reached (Some other) epoch end) (is_reached (Some reach) epoch end)
        (λ reached. means_reached reach epoch end (no_further reach.epoch reach.end other.epoch other.end epoch end (not_above_else other reach e) (reached_means other epoch end reached)))
