-- Where a record ends, and that its bytes are read in one way.
use Rattle.std.proofs.Common.{◌≡◌, ℕ, zero, suc, ◌+◌, ◌-◌, ◌^◌, ◌<◌, ◌≤◌, List, [], ◌∷◌, ◌++◌, length, drop, get_or, refl, sym, ap, ◌∙◌, arith, codes, decimal, append_assoc, length-append}
use Rattle.std.specs.Prelude.{replicate}
use Rattle.std.specs.Str.Parse.{digits_value}
use Rattle.std.proofs.lemmas.Fmt.{decimal_is_IsNumeral, length-decimal-le}
use Rattle.std.proofs.lemmas.List.{length-replicate}
use Rattle.wire_base.specs.declared.row.Op.{Op}
use Rattle.registry_frame.specs.Body.{body_bytes}
use Rattle.registry_log.specs.declared.area_text.TheConstants.{MAX_BODY}
use Rattle.registry_log.specs.Reading.{BeginsWithRecord}
use Rattle.registry_log.specs.Records.{padded, record_of}

-- ---- digits after zeros

value_behind_zeros : (zeros : ℕ) (ds : List ℕ) → digits_value 10 (replicate zeros 48 ++ ds) ≡ digits_value 10 ds
value_behind_zeros zero ds = refl
value_behind_zeros (suc zeros) ds = value_behind_zeros zeros ds

pub padded_value : (width number : ℕ) → number < 2 ^ 64 → digits_value 10 (padded width number) ≡ number
padded_value width number short = value_behind_zeros (width - length (decimal number)) (decimal number) ∙ (decimal_is_IsNumeral number short).1

pub padded_length : (width number : ℕ) → length (decimal number) ≤ width → length (padded width number) ≡ width
padded_length width number short =
    length-append (replicate (width - length (decimal number)) 48) (decimal number) ∙ omega (arith, short, length-replicate {A = ℕ} (width - length (decimal number)) 48)

same_front : (xs ys rest more : List ℕ) → length xs ≡ length ys → xs ++ rest ≡ ys ++ more → (xs ≡ ys) × (rest ≡ more)
same_front [] [] rest more even same = (refl, same)
same_front [] (y ∷ ys) rest more even same = absurd (omega (arith, even))
same_front (x ∷ xs) [] rest more even same = absurd (omega (arith, even))
same_front (x ∷ xs) (y ∷ ys) rest more even same =
    let behind = same_front xs ys rest more (omega (arith, even)) (ap (drop 1) same) in
    let first : x ≡ y = ap (λ (l : List ℕ). get_or l 0 0) same in
    (λ i. first i ∷ behind.0 i, behind.1)

seven_end : (m n : ℕ) (rest more : List ℕ) → m < 10 ^ 7 → n < 10 ^ 7 → padded 7 m ++ rest ≡ padded 7 n ++ more → (m ≡ n) × (rest ≡ more)
seven_end m n rest more short shorter same =
    let one = padded_length 7 m (length-decimal-le 7 m (omega arith) (omega (arith, short)) (omega (arith, short))) in
    let two = padded_length 7 n (length-decimal-le 7 n (omega arith) (omega (arith, shorter)) (omega (arith, shorter))) in
    let ends = same_front (padded 7 m) (padded 7 n) rest more (one ∙ sym two) same in
    (sym (padded_value 7 m (omega (arith, short))) ∙ ap (digits_value 10) ends.0 ∙ padded_value 7 n (omega (arith, shorter)), ends.1)

-- ---- records

pub flat_record : (ds body rest : List ℕ) → (codes "{" ++ ds ++ codes " " ++ body ++ codes "\n") ++ rest ≡ 123 ∷ (ds ++ (32 ∷ (body ++ (10 ∷ rest))))
flat_record ds body rest = simp append_assoc refl

pub behind_length : (n : ℕ) (tail body rest : List ℕ) → n < 10 ^ 7 → length body ≤ MAX_BODY → 123 ∷ (padded 7 n ++ 32 ∷ tail) ≡ record_of body ++ rest → (n ≡ length body) × (tail ≡ body ++ 10 ∷ rest)
behind_length n tail body rest short fits same =
    let ends = seven_end n (length body) (32 ∷ tail) (32 ∷ (body ++ 10 ∷ rest)) short (omega (arith, fits)) (ap (drop 1) (same ∙ flat_record (padded 7 (length body)) body rest)) in
    (ends.0, ap (drop 1) ends.1)

pub record_end : (body other rest more : List ℕ) → length body ≤ MAX_BODY → length other ≤ MAX_BODY → record_of body ++ rest ≡ record_of other ++ more → (body ≡ other) × (rest ≡ more)
record_end body other rest more fits too same =
    let ends = behind_length (length body) (body ++ 10 ∷ rest) other more (omega (arith, fits)) too (sym (flat_record (padded 7 (length body)) body rest) ∙ same) in
    let parts = same_front body other (10 ∷ rest) (10 ∷ more) ends.0 ends.1 in
    (parts.0, ap (drop 1) parts.1)

-- no record begins where fewer bytes follow than its length says
pub cut_record : (before : List Op) (n : ℕ) (tail : List ℕ) → n < 10 ^ 7 → length tail ≤ n → BeginsWithRecord before (123 ∷ (padded 7 n ++ 32 ∷ tail)) → ⊥
cut_record before n tail short few (ops, rest, same, may) =
    let ends = behind_length n tail (body_bytes ops) rest short may.body same in
    let long : length tail ≡ length (body_bytes ops) + (1 + length rest) = ap length ends.1 ∙ length-append (body_bytes ops) (10 ∷ rest) ∙ omega arith in
    omega (arith, few, long, ends.0)
