-- The text of a record behind its gate, as its parts are laid.
use Rattle.std.proofs.Common.{◌≡◌, ℕ, ◌+◌, ◌-◌, ◌^◌, ◌≤◌, List, [], ◌∷◌, ◌++◌, length, take, drop, refl, sym, ap, ◌∙◌, codes, decimal, append-nil, append_assoc, length-append, arith}
use Rattle.std.specs.Fmt.{format_spec, padded_integral, styled_decimal, char_count}
use Rattle.std.specs.Prelude.{replicate}
use Rattle.std.proofs.lemmas.List.{length-take, take-append-drop, take-replicate, take_at}
use Rattle.std.proofs.lemmas.Slice.{take-put_mid}
use borrow.Rule.Slice.PartMut.{put_mid}
use Rattle.spool_queue.specs.Records.{padded, record_of}

-- a number behind zeros, as a hole of width ten prints it
pub ten_digits : (n : ℕ) → styled_decimal (format_spec 32 0 4 10 (2 ^ 64 - 1)) n ≡ padded 10 n
unfolding padded_integral char_count
ten_digits n =
    let short : 10 - length (decimal n) - 0 - 0 ≡ 10 - length (decimal n) = omega arith in
    rw (short, append-nil (decimal n))

text_parts : (digits body : List ℕ) (kind : ℕ) → 123 ∷ ((digits ++ 32 ∷ kind ∷ []) ++ body ++ 10 ∷ 46 ∷ []) ≡ ((123 ∷ (digits ++ 32 ∷ kind ∷ [])) ++ (body ++ 10 ∷ [])) ++ 46 ∷ []
text_parts digits body kind = simp append_assoc refl

-- a record behind its gate, and the closed gate behind it
pub text_laid : (text head digits body : List ℕ) (kind : ℕ) → head ≡ digits ++ 32 ∷ kind ∷ [] → digits ≡ padded 10 (length body) → text ≡ head ++ body ++ 10 ∷ 46 ∷ [] → 123 ∷ text ≡ record_of kind body ++ codes "."
text_laid text head digits body kind head_is digits_are text_is =
    ap (λ (l : List ℕ). 123 ∷ l) (text_is ∙ ap (λ (l : List ℕ). l ++ body ++ 10 ∷ 46 ∷ []) head_is) ∙ text_parts digits body kind
    ∙ ap (λ (l : List ℕ). ((123 ∷ (l ++ 32 ∷ kind ∷ [])) ++ (body ++ 10 ∷ [])) ++ 46 ∷ []) digits_are

-- zeros with the digits of a number over their end
pub sizes_laid : (sizes : List ℕ) (start n : ℕ) → start + length (decimal n) ≡ 10 → take start sizes ≡ take start (replicate 10 48) → drop start sizes ≡ decimal n ++ drop 10 (replicate 10 48) → sizes ≡ padded 10 n
sizes_laid sizes start n ends front back =
    let few : start ≤ 10 = omega (arith, ends) in
    let count : start ≡ 10 - length (decimal n) = omega (arith, ends) in
    let zeros : take start (replicate 10 48) ≡ replicate (10 - length (decimal n)) 48 = take-replicate start 10 48 few ∙ ap (λ (m : ℕ). replicate m 48) count in
    sym (take-append-drop start sizes) ∙ (λ i. (front ∙ zeros) i ++ (back ∙ append-nil (decimal n)) i)

-- the parts of a settlement, each laid behind the one before it
pub parts_laid : (sizes digits rest : List ℕ) (n k j : ℕ) → length sizes ≡ 10 → length digits ≡ n → length rest ≡ 24 → n ≤ 20
    → take (14 + n) (put_mid (12 + n) k (put_mid 12 j (put_mid 10 2 (sizes ++ rest) (32 ∷ 115 ∷ [])) digits) (10 ∷ 46 ∷ [])) ≡ (sizes ++ 32 ∷ 115 ∷ []) ++ digits ++ 10 ∷ 46 ∷ []
parts_laid sizes digits rest n k j ten long room few =
    let first : List ℕ = sizes ++ rest in
    let second : List ℕ = put_mid 10 2 first (32 ∷ 115 ∷ []) in
    let third : List ℕ = put_mid 12 j second digits in
    let lengths = length-append sizes rest in
    let one : take 12 second ≡ sizes ++ 32 ∷ 115 ∷ [] =
    take-put_mid 10 2 first (32 ∷ 115 ∷ []) 12 refl (omega (arith, ten, lengths)) ∙ ap (λ (l : List ℕ). l ++ 32 ∷ 115 ∷ []) (take_at sizes rest 10 ten) in
    let two_long : 12 ≤ length second = omega (arith, ten, ap length one, length-append sizes (32 ∷ 115 ∷ []), length-take 12 second) in
    let two : take (12 + n) third ≡ (sizes ++ 32 ∷ 115 ∷ []) ++ digits =
    take-put_mid 12 j second digits (12 + n) (omega (arith, long)) two_long ∙ ap (λ (l : List ℕ). l ++ digits) one in
    let three_long : 12 + n ≤ length third = omega (arith, ten, long, ap length two, length-append (sizes ++ 32 ∷ 115 ∷ []) digits, length-append sizes (32 ∷ 115 ∷ []), length-take (12 + n) third) in
    take-put_mid (12 + n) k third (10 ∷ 46 ∷ []) (14 + n) (omega arith) three_long ∙ ap (λ (l : List ℕ). l ++ 10 ∷ 46 ∷ []) two
