-- Seven digits and the number that they write.
use Rattle.std.proofs.Common.{◌≡◌, ℕ, ◌+◌, ◌*◌, ◌≤◌, List, [], ◌∷◌, length, refl, sym, ap, ◌∙◌, subst, arith}
use Rattle.std.specs.Prelude.{All}
use Rattle.std.specs.Char.{IsAsciiDigit, digit_value}
use Rattle.std.specs.Str.Parse.{digits_value, digits_value_after}
use Rattle.std.proofs.lemmas.Bool.Decides.{nat_tests}
use Rattle.std.proofs.lemmas.Fmt.{length-decimal-le}
use Rattle.std.proofs.lemmas.List.Elements.{All-head, All-tail}
use Rattle.registry_log.specs.Records.{padded}
use Rattle.registry_log.specs.declared.area_text.TheConstants.{MAX_BODY}
use Rattle.registry_log.proofs.RecordsEnd.{padded_length, padded_value}
use Rattle.registry_log.proofs.Started.{padded_digits}

digit_is : (c : ℕ) → IsAsciiDigit c → digit_value c + 48 ≡ c
digit_is c digit = grind (arith, nat_tests)

digits_split : (m n v w d e : ℕ) → m * 10 + v ≡ n * 10 + w → v + 48 ≡ d → w + 48 ≡ e → IsAsciiDigit d → IsAsciiDigit e → (m ≡ n) × (d ≡ e)
digits_split m n v w d e same one two first second = (omega (arith, same, one, two, first.0, first.1, second.0, second.1), omega (arith, same, one, two, first.0, first.1, second.0, second.1))

same_digits : (ds es : List ℕ) (m n : ℕ) → All IsAsciiDigit ds → All IsAsciiDigit es → length ds ≡ length es → digits_value_after 10 m ds ≡ digits_value_after 10 n es → (m ≡ n) × (ds ≡ es)
same_digits [] [] m n are too even same = (same, refl)
same_digits [] (e ∷ es) m n are too even same = absurd (omega (arith, even))
same_digits (d ∷ ds) [] m n are too even same = absurd (omega (arith, even))
same_digits (d ∷ ds) (e ∷ es) m n are too even same =
    let one = All-head IsAsciiDigit d ds are in
    let two = All-head IsAsciiDigit e es too in
    let later = same_digits ds es (m * 10 + digit_value d) (n * 10 + digit_value e) (All-tail IsAsciiDigit d ds are) (All-tail IsAsciiDigit e es too) (omega (arith, even)) same in
    let split = digits_split m n (digit_value d) (digit_value e) d e later.0 (digit_is d one) (digit_is e two) one two in
    (split.0, λ i. split.1 i ∷ later.1 i)

seven : (size : ℕ) → size ≤ MAX_BODY → length (padded 7 size) ≡ 7
seven size low = padded_length 7 size (length-decimal-le 7 size (omega arith) (omega (arith, low)) (omega (arith, low)))

-- seven digits of a number that is not too great are the number after zeros
pub digits_padded : (ds : List ℕ) (size : ℕ) → All IsAsciiDigit ds → length ds ≡ 7 → digits_value 10 ds ≡ size → size ≤ MAX_BODY → ds ≡ padded 7 size
digits_padded ds size are long value low =
    (same_digits ds (padded 7 size) 0 0 are (padded_digits 7 size (omega (arith, low))) (long ∙ sym (seven size low)) (value ∙ sym (padded_value 7 size (omega (arith, low))))).1

-- and the other way round
pub padded_are_digits : (ds : List ℕ) (size : ℕ) → size ≤ MAX_BODY → ds ≡ padded 7 size → All IsAsciiDigit ds × (digits_value 10 ds ≡ size)
padded_are_digits ds size low same =
    (subst (All IsAsciiDigit) (sym same) (padded_digits 7 size (omega (arith, low))), ap (digits_value 10) same ∙ padded_value 7 size (omega (arith, low)))

pub head_digits : (size : ℕ) → size ≤ MAX_BODY → length (padded 7 size) ≡ 7
head_digits = seven
