-- What is at a gate: a head with the length of a body, and a record after it.
use Rattle.std.proofs.Common.{◌≡◌, ◌≢◌, ℕ, ◌+◌, ◌<◌, ◌≤◌, List, [], ◌∷◌, ◌++◌, length, take, drop, get_or, refl, sym, ap, ◌∙◌, arith, append_assoc, length-append, length-drop}
use Rattle.std.proofs.lemmas.List.{drop-drop, drop_more, get_or_at, get_or-drop, length-take-le, take-append-drop, take_at}
use Rattle.wire_base.specs.declared.row.Op.{Op}
use Rattle.registry_frame.specs.Body.{body_bytes}
use Rattle.registry_frame.specs.BodyOf.{IsBodyOf}
use Rattle.registry_log.specs.declared.area_text.TheConstants.{MAX_BODY}
use Rattle.registry_log.specs.RecordReading.{IsRecord, head_bytes}
use Rattle.registry_log.specs.Records.{padded, record_bytes}
use Rattle.registry_log.proofs.Digits.{head_digits}
use Rattle.registry_log.proofs.RecordsEnd.{behind_length, flat_record}

-- ---- the first byte

pub closed_head : (bytes : List ℕ) → 0 < length bytes → (get_or bytes 0 0 ≡ 0x7B → ⊥) → (gate : ℕ) × (rest : List ℕ) × (bytes ≡ gate ∷ rest) × (gate ≢ 0x7B)
closed_head [] some closed = absurd (omega (arith, some))
closed_head (gate ∷ rest) some closed = (gate, rest, refl, closed)

pub opened_head : (bytes : List ℕ) → 0 < length bytes → get_or bytes 0 0 ≡ 0x7B → (rest : List ℕ) × (bytes ≡ 0x7B ∷ rest)
opened_head [] some opened = absurd (omega (arith, some))
opened_head (gate ∷ rest) some opened = (rest, ap (λ (g : ℕ). g ∷ rest) opened)

-- ---- the head

pub flat_head : (size : ℕ) (more : List ℕ) → head_bytes size ++ more ≡ 123 ∷ (padded 7 size ++ 32 ∷ more)
flat_head size more = append_assoc (123 ∷ padded 7 size) (32 ∷ []) more

pub head_length : (size : ℕ) → size ≤ MAX_BODY → length (head_bytes size) ≡ 9
head_length size low = omega (arith, head_digits size low, length-append (123 ∷ padded 7 size) (32 ∷ []))

pub short_head : (bytes : List ℕ) (size : ℕ) (more : List ℕ) → length bytes < 9 → size ≤ MAX_BODY → bytes ≡ head_bytes size ++ more → ⊥
short_head bytes size more short low same =
    omega (arith, short, ap length same, length-append (head_bytes size) more, head_length size low)

pub spaced_head : (bytes : List ℕ) (size : ℕ) (more : List ℕ) → (get_or bytes 8 0 ≡ 32 → ⊥) → size ≤ MAX_BODY → bytes ≡ head_bytes size ++ more → ⊥
spaced_head bytes size more other low same =
    let eight : length (123 ∷ padded 7 size) ≡ 8 = omega (arith, head_digits size low) in
    other (ap (λ (l : List ℕ). get_or l 8 0) (same ∙ flat_head size more) ∙ get_or_at (123 ∷ padded 7 size) 32 more 0 8 eight)

pub sized_head : (bytes : List ℕ) (size : ℕ) (more : List ℕ) → size ≤ MAX_BODY → bytes ≡ head_bytes size ++ more → take 7 (drop 1 bytes) ≡ padded 7 size
sized_head bytes size more low same =
    ap (λ (l : List ℕ). take 7 (drop 1 l)) (same ∙ flat_head size more) ∙ take_at (padded 7 size) (32 ∷ more) 7 (head_digits size low)

pub whole_head : (bytes : List ℕ) (size : ℕ) → 9 ≤ length bytes → get_or bytes 0 0 ≡ 0x7B → get_or bytes 8 0 ≡ 32 → take 7 (drop 1 bytes) ≡ padded 7 size → bytes ≡ head_bytes size ++ drop 9 bytes
whole_head [] size long opened spaced digits = absurd (omega (arith, long))
whole_head (gate ∷ bytes) size long opened spaced digits =
    let seven : 7 < length bytes = omega (arith, long) in
    let behind : drop 7 bytes ≡ 32 ∷ drop 8 bytes = drop_more bytes 7 0 seven ∙ ap (λ (b : ℕ). b ∷ drop 8 bytes) spaced in
    let parts : bytes ≡ padded 7 size ++ 32 ∷ drop 8 bytes = sym (take-append-drop 7 bytes) ∙ (λ i. digits i ++ behind i) in
    (λ i. opened i ∷ parts i) ∙ sym (flat_head size (drop 8 bytes))

-- ---- the record

-- what a record says of the bytes after its head
pub record StandsIn (ops : List Op) (bytes : List ℕ) (size : ℕ) : Type 0 where
  pub long : size + 10 ≤ length bytes
  pub ended : get_or bytes (9 + size) 0 ≡ 10
  pub body : take size (drop 9 bytes) ≡ body_bytes ops

pub stands_in : (ops : List Op) (bytes rest : List ℕ) (size : ℕ) → size ≤ MAX_BODY → bytes ≡ head_bytes size ++ drop 9 bytes → IsRecord ops bytes rest → StandsIn ops bytes size
stands_in ops bytes rest size low head is =
    let ends = behind_length size (drop 9 bytes) (body_bytes ops) rest (omega (arith, low)) is.body (sym (flat_head size (drop 9 bytes)) ∙ sym head ∙ is.bytes) in
    let lengths : length (drop 9 bytes) ≡ length (body_bytes ops) + (1 + length rest) = ap length ends.1 ∙ length-append (body_bytes ops) (10 ∷ rest) ∙ omega arith in
    record {
      long = omega (arith, ends.0, lengths, length-drop 9 bytes);
      ended = sym (get_or-drop 9 bytes size 0) ∙ ap (λ (l : List ℕ). get_or l size 0) ends.1 ∙ get_or_at (body_bytes ops) 10 rest 0 size (sym ends.0);
      body = ap (take size) ends.1 ∙ take_at (body_bytes ops) (10 ∷ rest) size (sym ends.0);
    }

pub found : (ops : List Op) (bytes : List ℕ) (size : ℕ) → size ≤ MAX_BODY → bytes ≡ head_bytes size ++ drop 9 bytes → size + 10 ≤ length bytes → get_or bytes (9 + size) 0 ≡ 10
    → IsBodyOf ops (take size (drop 9 bytes)) → IsRecord ops bytes (drop (size + 10) bytes)
found ops bytes size low head long ended is =
    let tail : List ℕ = drop 9 bytes in
    let enough : size < length tail = omega (arith, long, length-drop 9 bytes) in
    let sized : size ≡ length (body_bytes ops) = sym (length-take-le size tail (omega (arith, enough))) ∙ ap length is.spelled in
    let last : get_or tail size 0 ≡ 10 = get_or-drop 9 bytes size 0 ∙ ended in
    let past : 9 + (size + 1) ≡ size + 10 = omega arith in
    let behind : drop size tail ≡ 10 ∷ drop (size + 10) bytes =
    drop_more tail size 0 enough ∙ (λ i. last i ∷ (drop-drop (size + 1) 9 bytes ∙ ap (λ (n : ℕ). drop n bytes) past) i) in
    let parts : tail ≡ body_bytes ops ++ 10 ∷ drop (size + 10) bytes = sym (take-append-drop size tail) ∙ (λ i. is.spelled i ++ behind i) in
    record {
      bytes = head ∙ flat_head size tail ∙ (λ i. 123 ∷ (padded 7 (sized i) ++ 32 ∷ parts i)) ∙ sym (flat_record (padded 7 (length (body_bytes ops))) (body_bytes ops) (drop (size + 10) bytes));
      some = is.some;
      each = is.each;
      body = omega (arith, sized, low);
    }

pub record_length : (ops : List Op) → length (body_bytes ops) ≤ MAX_BODY → length (record_bytes ops) ≡ length (body_bytes ops) + 10
record_length ops fits =
    let body : List ℕ = body_bytes ops in
    let digits : List ℕ = padded 7 (length body) in
    omega (arith, head_digits (length body) fits, length-append (123 ∷ digits ++ 32 ∷ [] ++ body) (10 ∷ []), length-append (123 ∷ digits ++ 32 ∷ []) body, length-append (123 ∷ digits) (32 ∷ []))
