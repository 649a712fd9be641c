-- A head and a record behind it, in bytes.
use Rattle.std.proofs.Common.{◌≡◌, ℕ, ◌+◌, ◌^◌, ◌<◌, List, [], ◌∷◌, ◌++◌, length, take, drop, get_or, refl, sym, ap, ◌∙◌, arith, append_assoc, length-append, length-drop}
use Rattle.std.proofs.lemmas.List.{drop_at, drop_more, length-take-le, nil_from_length, take-append-drop, take_at}
use Rattle.spool_queue.specs.Records.{Record, body_of, head_bytes, kind_of, padded, record_bytes, record_of}
use Rattle.spool_queue.proofs.Digits.{below_ten, digits_padded, padded_are_digits, ten}
use Rattle.std.specs.Char.{IsAsciiDigit}
use Rattle.std.specs.Prelude.{All}
use Rattle.std.specs.Str.Parse.{digits_value}

pub head_length : (size kind : ℕ) → size < 10 ^ 10 → length (head_bytes size kind) ≡ 13
head_length size kind low = omega (arith, ten size low, length-append (padded 10 size) (32 ∷ kind ∷ []))

same_front : (xs ys rest more : List ℕ) → length xs ≡ length ys → xs ++ rest ≡ ys ++ more → (xs ≡ ys) × (rest ≡ more)
same_front [] [] rest more even same = (refl, same)
same_front [] (y ∷ ys) rest more even same = absurd (omega (arith, even))
same_front (x ∷ xs) [] rest more even same = absurd (omega (arith, even))
same_front (x ∷ xs) (y ∷ ys) rest more even same =
    let behind = same_front xs ys rest more (omega (arith, even)) (ap (drop 1) same) in
    let first : x ≡ y = ap (λ (l : List ℕ). get_or l 0 0) same in
    (λ i. first i ∷ behind.0 i, behind.1)

pub same_heads : (m n j k : ℕ) → m < 10 ^ 10 → n < 10 ^ 10 → head_bytes m j ≡ head_bytes n k → (m ≡ n) × (j ≡ k)
same_heads m n j k low less same =
    let ends = same_front (padded 10 m) (padded 10 n) (32 ∷ j ∷ []) (32 ∷ k ∷ []) (ten m low ∙ sym (ten n less)) (ap (drop 1) same) in
    let one = padded_are_digits (padded 10 m) m low refl in
    let two = padded_are_digits (padded 10 m) n less ends.0 in
    (sym one.1 ∙ two.1, ap (λ (l : List ℕ). get_or l 1 0) ends.1)

-- ---- a record

pub flat_record : (kind : ℕ) (body rest : List ℕ) → record_of kind body ++ rest ≡ head_bytes (length body) kind ++ (body ++ 10 ∷ rest)
flat_record kind body rest =
    append_assoc (head_bytes (length body) kind) (body ++ 10 ∷ []) rest ∙ ap (λ (l : List ℕ). head_bytes (length body) kind ++ l) (append_assoc body (10 ∷ []) rest)

pub record_length : (kind : ℕ) (body : List ℕ) → length body < 10 ^ 10 → length (record_of kind body) ≡ length body + 14
record_length kind body low = omega (arith, head_length (length body) kind low, length-append (head_bytes (length body) kind) (body ++ 10 ∷ []), length-append body (10 ∷ []))

-- what a record says of the bytes in which it stands
pub record Stands (bytes : List ℕ) (size kind : ℕ) (one : Record) (rest : List ℕ) : Type 0 where
  pub sized : size ≡ length (body_of one)
  pub kinds : kind ≡ kind_of one
  pub tail : drop 13 bytes ≡ body_of one ++ 10 ∷ rest

pub head_of : (bytes : List ℕ) (one : Record) (rest : List ℕ) → length (body_of one) < 10 ^ 10 → bytes ≡ record_bytes one ++ rest → take 13 bytes ≡ head_bytes (length (body_of one)) (kind_of one)
head_of bytes one rest low same =
    ap (take 13) (same ∙ flat_record (kind_of one) (body_of one) rest) ∙ take_at (head_bytes (length (body_of one)) (kind_of one)) (body_of one ++ 10 ∷ rest) 13 (head_length (length (body_of one)) (kind_of one) low)

pub stands : (bytes : List ℕ) (size kind : ℕ) (one : Record) (rest : List ℕ) → size < 10 ^ 10 → length (body_of one) < 10 ^ 10 → take 13 bytes ≡ head_bytes size kind → bytes ≡ record_bytes one ++ rest → Stands bytes size kind one rest
stands bytes size kind one rest low less head same =
    let heads = same_heads size (length (body_of one)) kind (kind_of one) low less (sym head ∙ head_of bytes one rest less same) in
    record {
      sized = heads.0;
      kinds = heads.1;
      tail = ap (drop 13) (same ∙ flat_record (kind_of one) (body_of one) rest) ∙ drop_at (head_bytes (length (body_of one)) (kind_of one)) (body_of one ++ 10 ∷ rest) 13 (head_length (length (body_of one)) (kind_of one) less);
    }

-- the line feed behind a body
pub ended_by : (tail body rest : List ℕ) (size : ℕ) → size ≡ length body → tail ≡ body ++ 10 ∷ rest → (take size tail ≡ body) × (drop size tail ≡ 10 ∷ rest)
ended_by tail body rest size sized same = (ap (take size) same ∙ take_at body (10 ∷ rest) size (sym sized), ap (drop size) same ∙ drop_at body (10 ∷ rest) size (sym sized))

-- a head, so many bytes and a line feed are a record
pub found : (bytes body rest : List ℕ) (size kind : ℕ) → take 13 bytes ≡ head_bytes size kind → size ≡ length body → take size (drop 13 bytes) ≡ body → drop size (drop 13 bytes) ≡ 10 ∷ rest → bytes ≡ record_of kind body ++ rest
found bytes body rest size kind head sized front ended =
    sym (take-append-drop 13 bytes)
    ∙ (λ i. head i ++ (sym (take-append-drop size (drop 13 bytes)) ∙ (λ j. front j ++ ended j)) i)
    ∙ (λ i. head_bytes (sized i) kind ++ (body ++ 10 ∷ rest))
    ∙ sym (flat_record kind body rest)

-- ---- what is read of a head

pub opened_head : (bytes : List ℕ) → 0 < length bytes → get_or bytes 0 0 ≡ 0x7B → (rest : List ℕ) × (bytes ≡ 0x7B ∷ rest)
opened_head [] some opened = absurd (omega (arith, some))
opened_head (gate ∷ rest) some opened = (rest, ap (λ (g : ℕ). g ∷ rest) opened)

pub sized_head : (bytes : List ℕ) (size kind : ℕ) → size < 10 ^ 10 → bytes ≡ head_bytes size kind → take 10 (drop 1 bytes) ≡ padded 10 size
sized_head bytes size kind low same = ap (λ (l : List ℕ). take 10 (drop 1 l)) same ∙ take_at (padded 10 size) (32 ∷ kind ∷ []) 10 (ten size low)

whole_head : (bytes : List ℕ) (size kind : ℕ) → length bytes ≡ 13 → get_or bytes 0 0 ≡ 0x7B → get_or bytes 11 0 ≡ 32 → get_or bytes 12 0 ≡ kind → take 10 (drop 1 bytes) ≡ padded 10 size → bytes ≡ head_bytes size kind
whole_head [] size kind long opened spaced last digits = absurd (omega (arith, long))
whole_head (gate ∷ bytes) size kind long opened spaced last digits =
    let last_is : drop 11 bytes ≡ kind ∷ [] = drop_more bytes 11 0 (omega (arith, long)) ∙ (λ i. last i ∷ nil_from_length (drop 12 bytes) (omega (arith, long, length-drop 12 bytes)) i) in
    let tail : drop 10 bytes ≡ 32 ∷ kind ∷ [] = drop_more bytes 10 0 (omega (arith, long)) ∙ (λ i. spaced i ∷ last_is i) in
    (λ i. opened i ∷ (sym (take-append-drop 10 bytes) ∙ (λ j. digits j ++ tail j)) i)

pub head_read : (bytes : List ℕ) (size kind : ℕ) → length bytes ≡ 13 → get_or bytes 0 0 ≡ 0x7B → get_or bytes 11 0 ≡ 32 → get_or bytes 12 0 ≡ kind → All IsAsciiDigit (take 10 (drop 1 bytes)) → size ≡ digits_value 10 (take 10 (drop 1 bytes))
    → (size < 10 ^ 10) × (bytes ≡ head_bytes size kind)
head_read bytes size kind long opened spaced last are value =
    let sized : length (take 10 (drop 1 bytes)) ≡ 10 = length-take-le 10 (drop 1 bytes) (omega (arith, long, length-drop 1 bytes)) in
    (omega (arith, value, below_ten (take 10 (drop 1 bytes)) are sized), whole_head bytes size kind long opened spaced last (digits_padded (take 10 (drop 1 bytes)) size are sized (sym value)))
