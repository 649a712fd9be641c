-- A record and an area, as their parts are printed.
use Rattle.std.proofs.Common.{◌≡◌, ℕ, ◌+◌, ◌-◌, ◌^◌, List, [], ◌∷◌, ◌++◌, length, refl, sym, ap, ◌∙◌, codes, append-nil, append_assoc, length-append, arith}
use Rattle.std.specs.Fmt.{decimal, format_spec, padded_integral, styled_decimal, char_count}
use Rattle.wire_base.specs.declared.row.Row.{Row}
use Rattle.registry_log.specs.Area.{area_bytes, sets}
use Rattle.registry_log.specs.Records.{padded, record_of, records_bytes}

-- a number after zeros, as a hole of width seven or twenty prints it
pub seven_digits : (n : ℕ) → styled_decimal (format_spec 32 0 4 7 (2 ^ 64 - 1)) n ≡ padded 7 n
unfolding padded_integral char_count
seven_digits n =
    let short : 7 - length (decimal n) - 0 - 0 ≡ 7 - length (decimal n) = omega arith in
    rw (short, append-nil (decimal n))

pub twenty_digits : (n : ℕ) → styled_decimal (format_spec 32 0 4 20 (2 ^ 64 - 1)) n ≡ padded 20 n
unfolding padded_integral char_count
twenty_digits n =
    let short : 20 - length (decimal n) - 0 - 0 ≡ 20 - length (decimal n) = omega arith in
    rw (short, append-nil (decimal n))

record_parts : (old digits body : List ℕ) → old ++ 123 ∷ (digits ++ 32 ∷ []) ++ body ++ 93 ∷ 10 ∷ [] ≡ old ++ 123 ∷ (digits ++ 32 ∷ [] ++ (body ++ 93 ∷ []) ++ 10 ∷ [])
record_parts old digits body = simp append_assoc refl

pub record_printed : (old text head digits body : List ℕ) (size : ℕ) → head ≡ 123 ∷ (digits ++ 32 ∷ []) → digits ≡ padded 7 size → size ≡ length body + 1
    → text ≡ old ++ head ++ body ++ 93 ∷ 10 ∷ [] → text ≡ old ++ record_of (body ++ codes "]")
record_printed old text head digits body size head_is digits_are size_is text_is =
    let whole : size ≡ length (body ++ codes "]") = size_is ∙ sym (length-append body (codes "]")) in
    text_is ∙ ap (λ (l : List ℕ). old ++ l ++ body ++ 93 ∷ 10 ∷ []) head_is ∙ record_parts old digits body
    ∙ ap (λ (l : List ℕ). old ++ (codes "{" ++ l ++ codes " " ++ (body ++ codes "]") ++ codes "\n")) (digits_are ∙ ap (padded 7) whole)

text_parts : (digits body : List ℕ) → 123 ∷ ((digits ++ 32 ∷ []) ++ body ++ 10 ∷ 46 ∷ []) ≡ (codes "{" ++ digits ++ codes " " ++ body ++ codes "\n") ++ codes "."
text_parts digits body = simp append_assoc refl

-- a record after its gate, and the closed gate after it
pub text_printed : (text head digits body : List ℕ) (size : ℕ) → head ≡ digits ++ 32 ∷ [] → digits ≡ padded 7 size → size ≡ length body → text ≡ head ++ body ++ 10 ∷ 46 ∷ []
    → 123 ∷ text ≡ record_of body ++ codes "."
text_printed text head digits body size head_is digits_are size_is text_is =
    ap (λ (l : List ℕ). 123 ∷ l) (text_is ∙ ap (λ (l : List ℕ). l ++ body ++ 10 ∷ 46 ∷ []) head_is) ∙ text_parts digits body
    ∙ ap (λ (l : List ℕ). (codes "{" ++ l ++ codes " " ++ body ++ codes "\n") ++ codes ".") (digits_are ∙ ap (padded 7) size_is)

area_parts : (digits records : List ℕ) → 123 ∷ (codes "beat 2 " ++ (digits ++ codes "\n") ++ records ++ 46 ∷ []) ≡ codes "{" ++ (codes "beat 2 " ++ digits ++ codes "\n") ++ records ++ codes "."
area_parts digits records = simp append_assoc refl

pub area_printed : (generation : ℕ) (rows : List Row) (text header digits : List ℕ) → header ≡ codes "beat 2 " ++ (digits ++ codes "\n") → digits ≡ padded 20 generation
    → text ≡ header ++ records_bytes (sets rows) ++ 46 ∷ [] → 123 ∷ text ≡ area_bytes generation rows
area_printed generation rows text header digits header_is digits_are text_is =
    ap (λ (l : List ℕ). 123 ∷ l) (text_is ∙ ap (λ (l : List ℕ). l ++ records_bytes (sets rows) ++ 46 ∷ []) header_is) ∙ area_parts digits (records_bytes (sets rows))
    ∙ ap (λ (l : List ℕ). codes "{" ++ (codes "beat 2 " ++ l ++ codes "\n") ++ records_bytes (sets rows) ++ codes ".") digits_are
