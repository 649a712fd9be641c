-- Numbers by tests and by facts.
use Rattle.std.proofs.Common.{◌≡◌, inl, inr, ℕ, ◌<◌, ◌≤◌, ◌^◌, true, not, ◌||◌, eqb, List, [], ◌∷◌, length, get_or, Option, Some, None, refl, ap, arith, lit<}
use Rattle.std.specs.Option.{SomeIff, IfSome}
use Rattle.std.specs.List.{All, list_all}
use Rattle.std.specs.Prelude.{slice_get}
use Rattle.std.specs.Char.{is_ascii_digit, IsAsciiDigit, digit_value}
use Rattle.std.specs.Str.Parse.{digits_value, AllDigits}
use Rattle.std.proofs.lemmas.Bool.{ltb-true, lt-ltb, and_parts, leb-true, le-leb, eqb-true, eq-eqb, cases_Bool}
use Rattle.std.proofs.lemmas.Bool.Decides.{nat_tests}
use Rattle.std.proofs.lemmas.Int.Digits.{digits_value-lt}
use Rattle.std.proofs.lemmas.List.Sums.{AllPass-from_list_all, list_all-from_AllPass}
use Rattle.std.proofs.lemmas.Option.{same_Some}
use Rattle.std.proofs.Math.Nat.{pow-le-pow_right}
use Rattle.wire_base.specs.Decimal.{IsDecimal}
use Rattle.beat_config.specs.Number.{is_number, number_of}

test_of : (c : ℕ) → IsAsciiDigit c → is_ascii_digit c ≡ true
test_of c h = rw (le-leb 48 c h.0, le-leb c 57 h.1)

fact_of : (c : ℕ) → is_ascii_digit c ≡ true → IsAsciiDigit c
fact_of c h = let parts = and_parts _ _ h in (leb-true 48 c parts.0, leb-true c 57 parts.1)

all_pass : (ds : List ℕ) → All IsAsciiDigit ds → list_all is_ascii_digit ds ≡ true
all_pass ds h = list_all-from_AllPass is_ascii_digit ds (λ k d inside. test_of (get_or ds k d) (h k d inside))

all_digits : (ds : List ℕ) → list_all is_ascii_digit ds ≡ true → All IsAsciiDigit ds
all_digits ds h = λ k d inside. fact_of (get_or ds k d) (AllPass-from_list_all is_ascii_digit ds h k d inside)

leads : (ds : List ℕ) → (slice_get ds 0 ≡ Some 48 → length ds ≡ 1) → (not (eqb (get_or ds 0 0) 48) || eqb (length ds) 1) ≡ true
leads [] h = refl
leads (d ∷ ds) h = elim (cases_Bool (eqb d 48)) [
  | inl same ↦ rw (same, eq-eqb (length (d ∷ ds)) 1 (h (ap Some (eqb-true d 48 same))))
  | inr other ↦ rw other
]

lead_of : (ds : List ℕ) → (not (eqb (get_or ds 0 0) 48) || eqb (length ds) 1) ≡ true → slice_get ds 0 ≡ Some 48 → length ds ≡ 1
lead_of [] h e = absurd (cc)
lead_of (d ∷ ds) h e =
    let same : eqb d 48 ≡ true = eq-eqb d 48 (same_Some d 48 e) in
    eqb-true _ 1 (rw same at h)

number_test : (ds : List ℕ) → IsDecimal ds → is_number ds ≡ true
number_test ds is = rw (lt-ltb 0 (length ds) is.some, all_pass ds is.digits, leads ds is.no_leading_zero)

number_fact : (ds : List ℕ) → is_number ds ≡ true → IsDecimal ds
number_fact ds h =
    let outer = and_parts _ _ h in
    let inner = and_parts _ _ outer.1 in
    record {
      some = ltb-true 0 (length ds) outer.0;
      digits = all_digits ds inner.0;
      no_leading_zero = lead_of ds inner.1;
    }

digit_below : (c : ℕ) → IsAsciiDigit c → digit_value c < 10
digit_below c h = grind (arith, nat_tests)

each_below : (ds : List ℕ) → list_all is_ascii_digit ds ≡ true → AllDigits 10 ds
each_below [] h = tt
each_below (d ∷ ds) h = let parts = and_parts _ _ h in (digit_below d (fact_of d parts.0), each_below ds parts.1)

pub small : (ds : List ℕ) → IsDecimal ds → length ds ≤ 9 → digits_value 10 ds < 10 ^ 9
small ds is few =
    let below : digits_value 10 ds < 10 ^ length ds = digits_value-lt 10 ds (each_below ds (all_pass ds is.digits)) in
    let most : 10 ^ length ds ≤ 10 ^ 9 = pow-le-pow_right (lit< tt) few in
    omega arith

number_by_case : (most : ℕ) (ds : List ℕ) (r : Option ℕ) → most ≤ 9 → length ds ≤ most
    → SomeIff r (IsDecimal ds × (digits_value 10 ds < 2 ^ 64)) (digits_value 10 ds) → r ≡ number_of most ds
number_by_case most ds (Some n) bound few h = rw (le-leb (length ds) most few, number_test ds h.0.0, h.1)
number_by_case most ds None bound few h = elim (cases_Bool (is_number ds)) [
  | inl is ↦ absurd (h (number_fact ds is, omega (arith, small ds (number_fact ds is) (omega arith))))
  | inr not_one ↦ rw (le-leb (length ds) most few, not_one)
]

pub number_is : (most : ℕ) (ds : List ℕ) (r : Option ℕ) → most ≤ 9 → length ds ≤ most
    → SomeIff r (IsDecimal ds × (digits_value 10 ds < 2 ^ 64)) (digits_value 10 ds) → r ≡ number_of most ds
number_is = number_by_case

pub number_few : (ds : List ℕ) (r : Option ℕ) → length ds ≤ 9
    → SomeIff r (IsDecimal ds × (digits_value 10 ds < 2 ^ 64)) (digits_value 10 ds) → IfSome r (λ n. n < 10 ^ 9)
number_few ds (Some n) few h = omega (arith, h.1, small ds h.0.0 few)
number_few ds None few h = tt
