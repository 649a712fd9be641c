-- The first byte of a header that is absent or wrong, by the tests of its places.
use Rattle.std.proofs.Common.{◌≡◌, ◌⊎◌, inl, inr, ℕ, zero, suc, ◌+◌, ◌-◌, ◌^◌, ◌<◌, ◌≤◌, Bool, true, false, cond, List, [], ◌∷◌, length, get_or, take, drop, Option, Some, None, Result, Ok, Err, Bor, refl, sym, ap, ◌∙◌, subst, arith}
use Rattle.std.specs.Prelude.{All, find, slice_get, MatchOption, ◌==◌, nat_le, not, ◌&&◌, ◌||◌}
use Rattle.std.specs.Char.{IsAsciiDigit}
use Rattle.std.specs.List.{list_all, range_with_len, slice_range}
use Rattle.std.specs.Option.{SomeIff, option_map_or}
use Rattle.std.specs.Result.{OkIff, result_ok}
use Rattle.std.specs.Slice.{IsItemAt}
use Rattle.std.specs.Str.{IsUtf8}
use Rattle.std.specs.Str.Parse.{digits_value, ParsesUnsigned}
use Rattle.std.proofs.lemmas.Bool.{cases_lt}
use Rattle.std.proofs.lemmas.Bool.Decides.{eqb_tells, nat_tests}
use Rattle.std.proofs.lemmas.List.{drop-take, get_or_past, get_or-take, get_or-drop, length-drop, length-take-le}
use Rattle.std.proofs.lemmas.Option.{slice_get-get_or, slice_get_past}
use Rattle.std.proofs.lemmas.Str.{IsUtf8-from_ascii}
use Rattle.std.proofs.lemmas.Str.Parse.{numerals_by_value, tells_by_index, parse_digits}
use Rattle.registry_log.specs.Header.{HasHeader, first_wrong, fits, generation_of, is_out_of_range, is_wrong, may_stand}

-- ---- the first number of a range that passes

pub find_some : (test : ℕ → Bool) (from n p : ℕ) → from ≤ p → p < from + n → test p ≡ true → ((q : ℕ) → from ≤ q → q < p → test q ≡ false) → find test (range_with_len from n) ≡ Some p
find_some test from zero p low high passes fail = absurd (omega (arith, low, high))
find_some test from (suc n) p low high passes fail = elim (eqb_tells from p) [
  | inl here ↦ rw (here.1, passes) refl
  | inr later ↦ rw (fail from (omega arith) (omega (arith, later.1, low))) (find_some test (from + 1) n p (omega (arith, later.1, low)) (omega (arith, high)) passes (λ q above below. fail q (omega (arith, above)) below))
]

pub find_none : (test : ℕ → Bool) (from n : ℕ) → ((q : ℕ) → from ≤ q → q < from + n → test q ≡ false) → find test (range_with_len from n) ≡ None
find_none test from zero fail = refl
find_none test from (suc n) fail = rw (fail from (omega arith) (omega arith)) (find_none test (from + 1) n (λ q above below. fail q (omega (arith, above)) (omega (arith, below))))

find_step : (here : Bool) (x : ℕ) (rest : Option ℕ) → cond here (Some x) rest ≡ None → (here ≡ false) × (rest ≡ None)
find_step true x rest none = absurd (cc none)
find_step false x rest none = (refl, none)

none_passes : (test : ℕ → Bool) (from n : ℕ) → find test (range_with_len from n) ≡ None → (q : ℕ) → from ≤ q → q < from + n → test q ≡ false
none_passes test from zero none q low high = absurd (omega (arith, low, high))
none_passes test from (suc n) none q low high =
    let step = find_step (test from) from (find test (range_with_len (from + 1) n)) none in
    elim (eqb_tells from q) [
      | inl here ↦ let Fails : ℕ → Type 0 = λ k. test k ≡ false in subst Fails here.1 step.0
      | inr later ↦ none_passes test (from + 1) n step.1 q (omega (arith, later.1, low)) (omega (arith, high))
    ]

pub list_all_false : (test : ℕ → Bool) (from n p : ℕ) → from ≤ p → p < from + n → test p ≡ false → list_all test (range_with_len from n) ≡ false
list_all_false test from zero p low high fails = absurd (omega (arith, low, high))
list_all_false test from (suc n) p low high fails = elim (eqb_tells from p) [
  | inl here ↦ rw (here.1, fails) refl
  | inr later ↦ both_false (test from) (list_all_false test (from + 1) n p (omega (arith, later.1, low)) (omega (arith, high)) fails)
]
  where
    both_false : (b : Bool) {rest : Bool} → rest ≡ false → (b && rest) ≡ false
    both_false true is = is
    both_false false is = refl

pub list_all_true : (test : ℕ → Bool) (from n : ℕ) → ((q : ℕ) → from ≤ q → q < from + n → test q ≡ true) → list_all test (range_with_len from n) ≡ true
list_all_true test from zero pass = refl
list_all_true test from (suc n) pass = rw (pass from (omega arith) (omega arith)) (list_all_true test (from + 1) n (λ q above below. pass q (omega (arith, above)) (omega (arith, below))))

-- ---- one place

pub by_byte : (area : List ℕ) (place : ℕ) (byte : Option (Bor ℕ)) (answer : Bool) → IsItemAt area place byte → MatchOption byte (answer ≡ false) (λ (b : Bor ℕ). answer ≡ may_stand place b.now) → answer ≡ fits area place
by_byte area place None answer item is = is ∙ sym (rw (slice_get_past area place item.3) refl)
by_byte area place (Some byte) answer item is =
    let there : slice_get area place ≡ Some byte.now = slice_get-get_or area place byte.now item.3.0 ∙ ap (λ (b : ℕ). Some b) (sym item.1) in
    is ∙ sym (rw there refl)

pub fits_within : (area : List ℕ) (place : ℕ) → fits area place ≡ true → place < length area
fits_within area place there = elim (cases_lt place (length area)) [
  | inl inside ↦ inside
  | inr past ↦ let absent : fits area place ≡ false = rw (slice_get_past area place past) refl in cc (there, absent)
]

-- ---- the number

pub digits_are_text : (digits : List ℕ) → All IsAsciiDigit digits → IsUtf8 digits
digits_are_text digits are = IsUtf8-from_ascii digits (λ i. below i (cases_lt i (length digits)))
  where
    below : (i : ℕ) → (i < length digits) ⊎ (length digits ≤ i) → get_or digits i 0 < 128
    below i (inl inside) = omega (arith, are i 0 inside)
    below i (inr past) = rw (get_or_past digits i 0 past) (omega arith)

pub number_parsed : {E : Type 0} (digits : List ℕ) (r : Result ℕ E) → ParsesUnsigned 64 10 digits r → 0 < length digits → All IsAsciiDigit digits
    → SomeIff (result_ok r) (digits_value 10 digits < 2 ^ 64) (digits_value 10 digits)
number_parsed {E} digits r parses some are = by_case r (parse_digits (numerals_by_value _ tells_by_index) 64 digits r parses (λ i inside. are i 0 inside))
  where
    by_case : (r : Result ℕ E) → OkIff r ((0 < length digits) × (digits_value 10 digits < 2 ^ 64)) (digits_value 10 digits) → SomeIff (result_ok r) (digits_value 10 digits < 2 ^ 64) (digits_value 10 digits)
    by_case (Ok n) is = (is.0.1, is.1)
    by_case (Err e) fails = λ low. fails (some, low)

abbrev pub IsGeneration : ℕ → Type 0
IsGeneration number = (0 < number) × (number < 2 ^ 64)

-- each place before this one fits
abbrev pub FitsBefore : List ℕ → ℕ → Type 0
FitsBefore area end = (place : ℕ) → 0 < place → place < end → fits area place ≡ true

digit_stands : (place byte : ℕ) → 8 ≤ place → place < 28 → may_stand place byte ≡ true → IsAsciiDigit byte
digit_stands place byte low high stands = grind (arith, nat_tests)

digit_fits : (area : List ℕ) (place : ℕ) (fallback : ℕ) → 8 ≤ place → place < 28 → fits area place ≡ true → IsAsciiDigit (get_or area place fallback)
digit_fits area place fallback low high there =
    let at : slice_get area place ≡ Some (get_or area place fallback) = slice_get-get_or area place fallback (fits_within area place there) in
    digit_stands place (get_or area place fallback) low high (rw at at there)

pub digits_there : (area : List ℕ) → FitsBefore area 28 → All IsAsciiDigit (slice_range area 8 28)
digits_there area before k fallback inside =
    let last = fits_within area 27 (before 27 (omega arith) (omega arith)) in
    let enough : 20 ≤ length (drop 8 area) = omega (arith, last, length-drop 8 area) in
    let below : k < 20 = omega (arith, inside, length-take-le 20 (drop 8 area) enough) in
    let same : get_or (slice_range area 8 28) k fallback ≡ get_or area (8 + k) fallback = get_or-take 20 (drop 8 area) k fallback below ∙ get_or-drop 8 area k fallback in
    subst IsAsciiDigit (sym same) (digit_fits area (8 + k) fallback (omega arith) (omega (arith, below)) (before (8 + k) (omega arith) (omega (arith, below))))

-- ---- the first wrong byte

not_wrong : (area : List ℕ) (place : ℕ) → fits area place ≡ true → (8 ≡ place → is_out_of_range area ≡ false) → is_wrong area place ≡ false
not_wrong area place there number = rw there (elim (eqb_tells place 8) [
  | inl at ↦ rw (at.0, number (sym at.1)) refl
  | inr other ↦ rw other.0 refl
])

in_range : (area : List ℕ) → IsGeneration (generation_of area) → is_out_of_range area ≡ false
in_range area is = both (list_all (fits area) (range_with_len 8 20)) (grind (arith, nat_tests))
  where
    both : (b : Bool) {rest : Bool} → rest ≡ false → (b && rest) ≡ false
    both true none = none
    both false none = refl

digit_absent : (area : List ℕ) (place : ℕ) → 8 ≤ place → place < 28 → fits area place ≡ false → is_out_of_range area ≡ false
digit_absent area place low high absent = rw (list_all_false (fits area) 8 20 place low (omega (arith, high)) absent) refl

wrong_by_itself : (area : List ℕ) (place : ℕ) → fits area place ≡ false → is_wrong area place ≡ true
wrong_by_itself area place absent = rw absent refl

pub misfit_is_first : (area : List ℕ) (place : ℕ) → 0 < place → place < 28 → FitsBefore area place → fits area place ≡ false → first_wrong area ≡ Some place
unfolding first_wrong
misfit_is_first area place some low before absent =
    find_some (is_wrong area) 1 28 place some (omega (arith, low)) (wrong_by_itself area place absent)
    (λ q above below. not_wrong area q (before q above below) (λ at. digit_absent area place (omega (arith, at, below)) low absent))

both_true : (a b : Bool) → a ≡ true → b ≡ true → (a && b) ≡ true
both_true a b one other = rw (one, other) refl

last_true : (a : Bool) {b : Bool} → b ≡ true → (a || (true && b)) ≡ true
last_true true is = refl
last_true false is = is

out_of_range : (area : List ℕ) → ((q : ℕ) → 8 ≤ q → q < 28 → fits area q ≡ true) → (IsGeneration (generation_of area) → ⊥) → is_out_of_range area ≡ true
out_of_range area there none = both_true _ _ (list_all_true (fits area) 8 20 there) (tests (generation_of area) none)
  where
    tests : (n : ℕ) → (IsGeneration n → ⊥) → ((n == 0) || nat_le (2 ^ 64) n) ≡ true
    tests n none = elim (eqb_tells n 0) [
      | inl none_at_all ↦ rw none_at_all.0 refl
      | inr some ↦ elim (cases_lt n (2 ^ 64)) [
        | inl low ↦ absurd (none (omega (arith, some.1), low))
        | inr high ↦ grind (arith, nat_tests)
      ]
    ]

pub number_is_first : (area : List ℕ) → FitsBefore area 28 → (IsGeneration (generation_of area) → ⊥) → first_wrong area ≡ Some 8
unfolding first_wrong
number_is_first area before none =
    find_some (is_wrong area) 1 28 8 (omega arith) (omega arith) (last_true _ (out_of_range area (λ q above below. before q (omega (arith, above)) below) none))
    (λ q above below. not_wrong area q (before q above (omega (arith, below))) (λ at. absurd (omega (arith, at, below))))

pub line_feed_is_first : (area : List ℕ) → FitsBefore area 28 → IsGeneration (generation_of area) → fits area 28 ≡ false → first_wrong area ≡ Some 28
unfolding first_wrong
line_feed_is_first area before is absent =
    find_some (is_wrong area) 1 28 28 (omega arith) (omega arith) (wrong_by_itself area 28 absent)
    (λ q above below. not_wrong area q (before q above below) (λ at. in_range area is))

pub none_is_wrong : (area : List ℕ) → FitsBefore area 28 → IsGeneration (generation_of area) → fits area 28 ≡ true → first_wrong area ≡ None
unfolding first_wrong
none_is_wrong area before is last =
    find_none (is_wrong area) 1 28 (λ q above below. not_wrong area q (at_last q above (cases_lt q 28) below) (λ at. in_range area is))
  where
    at_last : (q : ℕ) → 0 < q → (q < 28) ⊎ (28 ≤ q) → q < 29 → fits area q ≡ true
    at_last q above (inl low) below = before q above low
    at_last q above (inr high) below = let Fit : ℕ → Type 0 = λ n. fits area n ≡ true in let last_place : 28 ≡ q = omega (arith, high, below) in subst Fit last_place last

not_wrong_fits : (there other : Bool) → (not there || other) ≡ false → there ≡ true
not_wrong_fits true other right = refl
not_wrong_fits false other right = absurd (cc right)

-- a right header is there whole
pub header_long : (front : List ℕ) (generation : ℕ) → HasHeader front generation → 29 ≤ length front
unfolding first_wrong
header_long front generation header =
    let right : is_wrong front 28 ≡ false = none_passes (is_wrong front) 1 28 header.right 28 (omega arith) (omega arith) in
    let inside = fits_within front 28 (not_wrong_fits (fits front 28) ((28 == 8) && is_out_of_range front) right) in
    omega (arith, inside)

-- ---- the first bytes alone

pub same_get : (area : List ℕ) (count place : ℕ) → place < count → slice_get (take count area) place ≡ slice_get area place
same_get area zero place low = absurd (omega (arith, low))
same_get [] (suc count) place low = refl
same_get (byte ∷ area) (suc count) zero low = refl
same_get (byte ∷ area) (suc count) (suc place) low = same_get area count place (omega (arith, low))

same_fit : (area : List ℕ) (count place : ℕ) → place < count → fits (take count area) place ≡ fits area place
same_fit area count place low = ap (λ (byte : Option ℕ). option_map_or (may_stand place) byte false) (same_get area count place low)

take_of_longer : (bytes : List ℕ) (few count : ℕ) → few ≤ count → take few (take count bytes) ≡ take few bytes
take_of_longer bytes zero count low = refl
take_of_longer bytes (suc few) zero low = absurd (omega (arith, low))
take_of_longer [] (suc few) (suc count) low = refl
take_of_longer (byte ∷ bytes) (suc few) (suc count) low = ap (λ (l : List ℕ). byte ∷ l) (take_of_longer bytes few count (omega (arith, low)))

pub same_generation : (area : List ℕ) (count : ℕ) → 28 ≤ count → generation_of (take count area) ≡ generation_of area
same_generation area count enough =
    let behind : ℕ = count - 8 in
    let Part : ℕ → Type 0 = λ n. take 20 (drop 8 (take n area)) ≡ take 20 (drop 8 area) in
    let whole : 8 + behind ≡ count = omega (arith, enough) in
    ap (digits_value 10) (subst Part whole (ap (take 20) (drop-take 8 behind area) ∙ take_of_longer (drop 8 area) 20 behind (omega (arith, enough))))

list_all_same : (one other : ℕ → Bool) (from n : ℕ) → ((q : ℕ) → q < from + n → one q ≡ other q) → list_all one (range_with_len from n) ≡ list_all other (range_with_len from n)
list_all_same one other from zero same = refl
list_all_same one other from (suc n) same = λ i. same from (omega arith) i && list_all_same one other (from + 1) n (λ q low. same q (omega (arith, low))) i

find_same : (one other : ℕ → Bool) (from n : ℕ) → ((q : ℕ) → q < from + n → one q ≡ other q) → find one (range_with_len from n) ≡ find other (range_with_len from n)
find_same one other from zero same = refl
find_same one other from (suc n) same =
    λ i. cond (same from (omega arith) i) (Some from) (find_same one other (from + 1) n (λ q low. same q (omega (arith, low))) i)

same_range : (area : List ℕ) (count : ℕ) → 28 ≤ count → is_out_of_range (take count area) ≡ is_out_of_range area
same_range area count enough =
    λ i. list_all_same (fits (take count area)) (fits area) 8 20 (λ q low. same_fit area count q (omega (arith, low, enough))) i
    && ((same_generation area count enough i == 0) || nat_le (2 ^ 64) (same_generation area count enough i))

pub same_first_wrong : (area : List ℕ) (count : ℕ) → 29 ≤ count → first_wrong (take count area) ≡ first_wrong area
unfolding first_wrong
same_first_wrong area count enough =
    find_same (is_wrong (take count area)) (is_wrong area) 1 28
    (λ q low. λ i. not (same_fit area count q (omega (arith, low, enough)) i) || ((q == 8) && same_range area count (omega (arith, enough)) i))
