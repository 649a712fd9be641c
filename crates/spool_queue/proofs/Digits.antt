-- Ten digits and the number that they write, and the digits of a number.
use Rattle.std.proofs.Common.{◌≡◌, ◌⊎◌, inl, inr, ℕ, zero, suc, ◌+◌, ◌-◌, ◌*◌, ◌^◌, ◌<◌, ◌≤◌, List, [], ◌∷◌, ◌++◌, length, get_or, Result, Ok, Err, refl, sym, ap, ◌∙◌, subst, arith, decimal, length-append}
use Rattle.std.specs.Prelude.{All, replicate, Some}
use Rattle.std.specs.Char.{IsAsciiDigit, digit_value}
use Rattle.std.specs.Option.{SomeIff}
use Rattle.std.specs.Result.{OkIff, result_ok}
use Rattle.std.specs.Str.{IsUtf8}
use Rattle.std.specs.Str.Parse.{AllDigits, ParsesUnsigned, digits_value, digits_value_after}
use Rattle.std.proofs.lemmas.Bool.{cases_lt}
use Rattle.std.proofs.lemmas.Bool.Decides.{nat_tests}
use Rattle.std.proofs.lemmas.Fmt.{decimal-digits_value, decimal_is_IsNumeral, first_decimal, length-decimal-le}
use Rattle.std.proofs.lemmas.List.{get_or_past, length-replicate}
use Rattle.std.proofs.lemmas.List.Elements.{All-append, All-cons, All-head, All-nil, All-replicate, All-tail}
use Rattle.std.proofs.lemmas.Str.{IsUtf8-from_ascii}
use Rattle.std.proofs.lemmas.Str.Parse.{digits_value_short, numerals_by_value, parse_digits, tells_by_index}
use Rattle.std.proofs.lemmas.Option.{slice_get-get_or}
use Rattle.wire_base.specs.Decimal.{IsDecimal, value_of}
use Rattle.spool_queue.specs.Records.{padded}

-- ---- digits behind zeros

value_behind_zeros : (zeros : ℕ) (ds : List ℕ) → digits_value 10 (replicate zeros 48 ++ ds) ≡ digits_value 10 ds
value_behind_zeros zero ds = refl
value_behind_zeros (suc zeros) ds = value_behind_zeros zeros ds

padded_value : (width number : ℕ) → number < 2 ^ 64 → digits_value 10 (padded width number) ≡ number
padded_value width number short = value_behind_zeros (width - length (decimal number)) (decimal number) ∙ (decimal_is_IsNumeral number short).1

padded_length : (width number : ℕ) → length (decimal number) ≤ width → length (padded width number) ≡ width
padded_length width number short =
    length-append (replicate (width - length (decimal number)) 48) (decimal number) ∙ omega (arith, short, length-replicate {A = ℕ} (width - length (decimal number)) 48)

pub ten : (size : ℕ) → size < 10 ^ 10 → length (padded 10 size) ≡ 10
ten size low = padded_length 10 size (length-decimal-le 10 size (omega arith) low (omega (arith, low)))

-- ---- ten digits

digit_is : (c : ℕ) → IsAsciiDigit c → digit_value c + 48 ≡ c
digit_is c digit = grind (arith, nat_tests)

digits_split : (m n v w d e : ℕ) → m * 10 + v ≡ n * 10 + w → v + 48 ≡ d → w + 48 ≡ e → IsAsciiDigit d → IsAsciiDigit e → (m ≡ n) × (d ≡ e)
digits_split m n v w d e same one two first second = (omega (arith, same, one, two, first.0, first.1, second.0, second.1), omega (arith, same, one, two, first.0, first.1, second.0, second.1))

same_digits : (ds es : List ℕ) (m n : ℕ) → All IsAsciiDigit ds → All IsAsciiDigit es → length ds ≡ length es → digits_value_after 10 m ds ≡ digits_value_after 10 n es → (m ≡ n) × (ds ≡ es)
same_digits [] [] m n are too even same = (same, refl)
same_digits [] (e ∷ es) m n are too even same = absurd (omega (arith, even))
same_digits (d ∷ ds) [] m n are too even same = absurd (omega (arith, even))
same_digits (d ∷ ds) (e ∷ es) m n are too even same =
    let one = All-head IsAsciiDigit d ds are in
    let two = All-head IsAsciiDigit e es too in
    let later = same_digits ds es (m * 10 + digit_value d) (n * 10 + digit_value e) (All-tail IsAsciiDigit d ds are) (All-tail IsAsciiDigit e es too) (omega (arith, even)) same in
    let split = digits_split m n (digit_value d) (digit_value e) d e later.0 (digit_is d one) (digit_is e two) one two in
    (split.0, λ i. split.1 i ∷ later.1 i)

is_a_digit : (c : ℕ) → digit_value c < 10 → IsAsciiDigit c
is_a_digit c small = elim (cases_lt c 48) [
  | inl low ↦ absurd (let value : digit_value c ≡ 36 = grind (arith, nat_tests) in omega (arith, small, value))
  | inr high ↦ elim (cases_lt c 58) [
    | inl inside ↦ (high, omega (arith, inside))
    | inr above ↦ absurd (let value : 10 ≤ digit_value c = grind (arith, nat_tests) in omega (arith, small, value))
  ]
]

ascii_digits : (ds : List ℕ) → AllDigits 10 ds → All IsAsciiDigit ds
ascii_digits [] are = All-nil IsAsciiDigit
ascii_digits (d ∷ ds) are = All-cons IsAsciiDigit d ds (is_a_digit d are.0) (ascii_digits ds are.1)

padded_digits : (width number : ℕ) → number < 2 ^ 64 → All IsAsciiDigit (padded width number)
padded_digits width number short =
    All-append IsAsciiDigit (replicate (width - length (decimal number)) 48) (decimal number)
    (All-replicate IsAsciiDigit (width - length (decimal number)) 48 (omega arith, omega arith)) (ascii_digits (decimal number) (decimal_is_IsNumeral number short).0.1)

pub below_ten : (ds : List ℕ) → All IsAsciiDigit ds → length ds ≡ 10 → digits_value 10 ds < 10 ^ 10
below_ten ds are long = digits_value_short (numerals_by_value _ tells_by_index) ds 10 (λ i inside. are i 0 inside) (omega (arith, long))

-- ten digits are their number behind zeros
pub digits_padded : (ds : List ℕ) (size : ℕ) → All IsAsciiDigit ds → length ds ≡ 10 → digits_value 10 ds ≡ size → ds ≡ padded 10 size
digits_padded ds size are long value =
    let low : size < 10 ^ 10 = omega (arith, value, below_ten ds are long) in
    (same_digits ds (padded 10 size) 0 0 are (padded_digits 10 size (omega (arith, low))) (long ∙ sym (ten size low)) (value ∙ sym (padded_value 10 size (omega (arith, low))))).1

-- and the other way round
pub padded_are_digits : (ds : List ℕ) (size : ℕ) → size < 10 ^ 10 → ds ≡ padded 10 size → All IsAsciiDigit ds × (digits_value 10 ds ≡ size)
padded_are_digits ds size low same =
    (subst (All IsAsciiDigit) (sym same) (padded_digits 10 size (omega (arith, low))), ap (digits_value 10) same ∙ padded_value 10 size (omega (arith, low)))

pub digits_are_text : (digits : List ℕ) → All IsAsciiDigit digits → IsUtf8 digits
digits_are_text digits are = IsUtf8-from_ascii digits (λ i. below i (cases_lt i (length digits)))
  where
    below : (i : ℕ) → (i < length digits) ⊎ (length digits ≤ i) → get_or digits i 0 < 128
    below i (inl inside) = omega (arith, are i 0 inside)
    below i (inr past) = rw (get_or_past digits i 0 past) (omega arith)

pub number_parsed : {E : Type 0} (digits : List ℕ) (r : Result ℕ E) → ParsesUnsigned 64 10 digits r → length digits ≡ 10 → All IsAsciiDigit digits → SomeIff (result_ok r) (All IsAsciiDigit digits) (digits_value 10 digits)
number_parsed {E} digits r parses long are = by_case r (parse_digits (numerals_by_value _ tells_by_index) 64 digits r parses (λ i inside. are i 0 inside))
  where
    by_case : (r : Result ℕ E) → OkIff r ((0 < length digits) × (digits_value 10 digits < 2 ^ 64)) (digits_value 10 digits) → SomeIff (result_ok r) (All IsAsciiDigit digits) (digits_value 10 digits)
    by_case (Ok n) is = (are, is.1)
    by_case (Err e) fails = absurd (fails (omega (arith, long), omega (arith, below_ten digits are long)))

-- ---- the digits of a number

same_some : (a b : ℕ) → Some a ≡ Some b → a ≡ b
same_some a b same = cc

pub decimal_is : (n : ℕ) → 0 < n → n < 2 ^ 64 → IsDecimal (decimal n) × (value_of (decimal n) ≡ n)
decimal_is n some short =
    let is = decimal_is_IsNumeral n short in
    let first : 48 < get_or (decimal n) 0 0 = first_decimal n some short in (
      record {
        some = is.0.0;
        digits = ascii_digits (decimal n) is.0.1;
        no_leading_zero = λ zero_first. let same : get_or (decimal n) 0 0 ≡ 48 = same_some _ _ (sym (slice_get-get_or (decimal n) 0 0 is.0.0) ∙ zero_first) in absurd (omega (arith, first, same));
      },
      is.1,
    )

pub decimal_of : (ds : List ℕ) → IsDecimal ds → value_of ds < 2 ^ 64 → decimal (value_of ds) ≡ ds
decimal_of ds is short =
    decimal-digits_value (numerals_by_value _ tells_by_index) ds (λ i inside. is.digits i 0 inside) is.some
    (λ zero_first. is.no_leading_zero (slice_get-get_or ds 0 0 is.some ∙ ap (λ (b : ℕ). Some b) zero_first)) short

pub short_decimal : (n : ℕ) → n < 2 ^ 64 → length (decimal n) ≤ 20
short_decimal n short = length-decimal-le 20 n (omega arith) (omega (arith, short)) short
