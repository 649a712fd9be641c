-- What std says of texts of digits, for the decimal numbers of formats.
use Rattle.std.proofs.Common.{◌⊎◌, inl, inr, ℕ, ◌<◌, ◌≤◌, ◌^◌, List, length, get_or, Result, Ok, Err, arith}
use Rattle.std.specs.Option.{SomeIff}
use Rattle.std.specs.Result.{OkIff, result_ok}
use Rattle.std.specs.Str.{IsUtf8}
use Rattle.std.specs.Str.Parse.{digits_value, ParsesUnsigned}
use Rattle.std.proofs.lemmas.Bool.{cases_lt}
use Rattle.std.proofs.lemmas.List.{get_or_past}
use Rattle.std.proofs.lemmas.Str.{IsUtf8-from_ascii}
use Rattle.std.proofs.lemmas.Str.Parse.{numerals_by_value, tells_by_index, parse_digits}
use Rattle.wire_base.specs.Decimal.{IsDecimal, value_of}

-- a decimal number is ASCII, and so it is text
pub utf8 : (bytes : List ℕ) → IsDecimal bytes → IsUtf8 bytes
utf8 bytes is = IsUtf8-from_ascii bytes (λ i. below i (cases_lt i (length bytes)))
  where
    below : (i : ℕ) → (i < length bytes) ⊎ (length bytes ≤ i) → get_or bytes i 0 < 128
    below i (inl inside) = omega (arith, is.digits i 0 inside)
    below i (inr past) = rw (get_or_past bytes i 0 past) (omega arith)

-- what `parse` gives for it is its value, if that fits
pub parsed : {E : Type 0} (bytes : List ℕ) (r : Result ℕ E) → ParsesUnsigned 64 10 bytes r → IsDecimal bytes → SomeIff (result_ok r) (IsDecimal bytes × (value_of bytes < 2 ^ 64)) (value_of bytes)
parsed {E} bytes r h is = by_case r (parse_digits (numerals_by_value _ tells_by_index) 64 bytes r h (λ i inside. is.digits i 0 inside))
  where
    by_case : (r : Result ℕ E) → OkIff r ((0 < length bytes) × (digits_value 10 bytes < 2 ^ 64)) (digits_value 10 bytes) → SomeIff (result_ok r) (IsDecimal bytes × (value_of bytes < 2 ^ 64)) (value_of bytes)
    by_case (Ok n) h = ((is, h.0.1), h.1)
    by_case (Err e) h = λ both. h (is.some, both.1)
