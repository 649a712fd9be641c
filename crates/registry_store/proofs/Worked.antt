-- The choice between two areas: each of blank, closed, opened and broken as A and as B, both orders of generations, and what
-- is not chosen.
use Rattle.std.proofs.Common.{◌≡◌, ℕ, List, [], codes, refl, inl, arith}
use Rattle.wire_base.specs.declared.limits.Which.TheVariants.{A, B}
use Rattle.wire_base.specs.declared.row.Row.{Row}
use Rattle.registry_log.specs.Header.{first_wrong}
use Rattle.registry_log.specs.State.{IsState, Blank, Closed, Opened, Broken}
use Rattle.registry_store.specs.Choice.{Fresh, Chosen, Refused, IsChoice, chosen_area}
use Rattle.registry_store.proofs.Opening.{OneChoice}

-- ---- by states

two_orders : (rows others : List Row) → (chosen_area (Opened 1 rows 29 40) (Opened 2 others 29 50) ≡ Chosen B 2 others 29 50) × (chosen_area (Opened 2 rows 29 40) (Opened 1 others 29 50) ≡ Chosen A 2 rows 29 40)
two_orders rows others = (refl, refl)

equal_generations : (rows others : List Row) → chosen_area (Opened 7 rows 29 40) (Opened 7 others 29 50) ≡ Chosen A 7 rows 29 40
equal_generations rows others = refl

greatest_generation : (rows others : List Row) → chosen_area (Opened 18_446_744_073_709_551_614 rows 29 40) (Opened 18_446_744_073_709_551_615 others 29 50) ≡ Chosen B 18_446_744_073_709_551_615 others 29 50
greatest_generation rows others = refl

opened_beside_broken : (rows : List Row) → (chosen_area (Opened 1 rows 29 40) (Broken 3) ≡ Chosen A 1 rows 29 40) × (chosen_area (Broken 3) (Opened 1 rows 29 40) ≡ Chosen B 1 rows 29 40)
opened_beside_broken rows = (refl, refl)

broken_a_is_told : (chosen_area (Broken 3) Blank ≡ Refused A 3) × (chosen_area (Broken 3) Closed ≡ Refused A 3) × (chosen_area (Broken 3) (Broken 5) ≡ Refused A 3)
broken_a_is_told = (refl, refl, refl)

-- ---- by bytes: areas without a row

abbrev first_area : List ℕ
first_area = codes "{beat 2 00000000000000000001\n."

abbrev second_area : List ℕ
second_area = codes "{beat 1 00000000000000000002\n."

abbrev broken_area : List ℕ
broken_area = codes "{beat 3 "

abbrev closed_area : List ℕ
closed_area = codes ".beat"

first_opened : IsState first_area (Opened 1 [] 29 29)
unfolding first_wrong
first_opened = (
  refl,
  record {
    records = [];
    gate = 46;
    rest = [];
    reaches = record { unclosed = record { gate = refl; more = omega arith }; header = record { right = refl; number = refl }; each = tt; bytes = refl; begins = refl };
    closed = λ same. omega (arith, same);
    replayed = refl;
  },
)

second_opened : IsState second_area (Opened 2 [] 29 29)
unfolding first_wrong
second_opened = (
  refl,
  record {
    records = [];
    gate = 46;
    rest = [];
    reaches = record { unclosed = record { gate = refl; more = omega arith }; header = record { right = refl; number = refl }; each = tt; bytes = refl; begins = refl };
    closed = λ same. omega (arith, same);
    replayed = refl;
  },
)

broken : IsState broken_area (Broken 6)
unfolding first_wrong
broken = inl (record { gate = refl; more = omega arith }, refl)

closed : IsState closed_area Closed
closed = (omega arith, λ same. omega (arith, same))

later_b_is_used : IsChoice first_area second_area (Chosen B 2 [] 29 29)
later_b_is_used = record { first_state = Opened 1 [] 29 29; second_state = Opened 2 [] 29 29; first_is = first_opened; second_is = second_opened; chosen = refl }

later_a_is_used : IsChoice second_area first_area (Chosen A 2 [] 29 29)
later_a_is_used = record { first_state = Opened 2 [] 29 29; second_state = Opened 1 [] 29 29; first_is = second_opened; second_is = first_opened; chosen = refl }

a_is_used_of_equals : IsChoice first_area first_area (Chosen A 1 [] 29 29)
a_is_used_of_equals = record { first_state = Opened 1 [] 29 29; second_state = Opened 1 [] 29 29; first_is = first_opened; second_is = first_opened; chosen = refl }

b_is_used_beside_broken : IsChoice broken_area first_area (Chosen B 1 [] 29 29)
b_is_used_beside_broken = record { first_state = Broken 6; second_state = Opened 1 [] 29 29; first_is = broken; second_is = first_opened; chosen = refl }

both_blank : IsChoice [] (codes "{") Fresh
both_blank = record { first_state = Blank; second_state = Blank; first_is = omega arith; second_is = omega arith; chosen = refl }

a_closed : IsChoice closed_area [] Fresh
a_closed = record { first_state = Closed; second_state = Blank; first_is = closed; second_is = omega arith; chosen = refl }

b_closed : IsChoice [] closed_area (Refused B 0)
b_closed = record { first_state = Blank; second_state = Closed; first_is = omega arith; second_is = closed; chosen = refl }

both_closed : IsChoice closed_area closed_area (Refused B 0)
both_closed = record { first_state = Closed; second_state = Closed; first_is = closed; second_is = closed; chosen = refl }

a_broken : IsChoice broken_area closed_area (Refused A 6)
a_broken = record { first_state = Broken 6; second_state = Closed; first_is = broken; second_is = closed; chosen = refl }

b_broken : IsChoice closed_area broken_area (Refused B 6)
b_broken = record { first_state = Closed; second_state = Broken 6; first_is = closed; second_is = broken; chosen = refl }

-- ---- what is not chosen

earlier_is_not_used : OneChoice → IsChoice first_area second_area (Chosen A 1 [] 29 29) → ⊥
earlier_is_not_used one choice = let same = one first_area second_area _ _ choice later_b_is_used in cc same

broken_is_not_empty : OneChoice → IsChoice broken_area [] Fresh → ⊥
broken_is_not_empty one choice =
    let same = one broken_area [] _ _ choice (record { first_state = Broken 6; second_state = Blank; first_is = broken; second_is = omega arith; chosen = refl }) in cc same
