-- What is at a gate of an area, by the bytes that were read of it.
use Rattle.std.proofs.Common.{◌≡◌, ◌⊎◌, inl, inr, ℕ, ◌+◌, ◌≤◌, List, [], ◌∷◌, ◌++◌, length, drop, sym, ap, ◌∙◌, subst, arith, append_assoc, length-append, length-drop}
use Rattle.std.proofs.lemmas.List.{drop-drop, drop_at, nil_from_length}
use Rattle.wire_base.specs.declared.row.Op.{Op}
use Rattle.registry_frame.specs.Body.{body_bytes}
use Rattle.registry_log.specs.declared.area_text.TheConstants.{MAX_BODY}
use Rattle.registry_log.specs.RecordReading.{IsFront, IsRecord, head_bytes}
use Rattle.registry_log.specs.Records.{padded, record_bytes}
use Rattle.registry_log.proofs.Fronts.{IsEnough, front_begins, whole_begins}
use Rattle.registry_log.proofs.Heads.{flat_head, head_length, record_length}
use Rattle.registry_log.proofs.RecordsEnd.{behind_length, flat_record}

-- the bytes that were read from a gate on
pub record AtGate (read area : List ℕ) (gate wanted : ℕ) : Type 0 where
  pub front : IsFront read (drop gate area)
  pub enough : IsEnough wanted read (drop gate area)

enough_of : (read area : List ℕ) (gate wanted : ℕ) → (wanted ≤ length read) ⊎ (length area ≤ gate + length read) → IsEnough wanted read (drop gate area)
enough_of read area gate wanted (inl enough) = inl enough
enough_of read area gate wanted (inr all) = inr (omega (arith, all, length-drop gate area))

pub at_gate : (read unread area : List ℕ) (place gate wanted : ℕ) → read ≡ unread → place ≡ gate → IsFront unread (drop place area) → (wanted ≤ length unread) ⊎ (length area ≤ place + length unread) → AtGate read area gate wanted
at_gate read unread area place gate wanted same at is enough =
    let Of : ℕ → Type 0 = λ p. AtGate unread area p wanted in
    let By : List ℕ → Type 0 = λ l. AtGate l area gate wanted in
    subst By (sym same) (subst Of at (record { front = is; enough = enough_of unread area place wanted enough }))

pub absent_at : (read whole : List ℕ) → IsEnough 9 read whole → read ≡ [] → whole ≡ []
absent_at read whole (inl enough) none = absurd (omega (arith, enough, ap length none))
absent_at read whole (inr all) none = nil_from_length whole (omega (arith, all, ap length none))

pub gate_at : (read whole : List ℕ) (gate : ℕ) (rest : List ℕ) → IsFront read whole → read ≡ gate ∷ rest → (more : List ℕ) × (whole ≡ gate ∷ more)
gate_at read whole gate rest is begins = whole_begins read whole (gate ∷ []) rest is begins

-- a record begins with the head that says its body's length
headed : (ops : List Op) (bytes more : List ℕ) → IsRecord ops bytes more → bytes ≡ head_bytes (length (body_bytes ops)) ++ (body_bytes ops ++ 10 ∷ more)
headed ops bytes more is =
    is.bytes ∙ flat_record (padded 7 (length (body_bytes ops))) (body_bytes ops) more ∙ sym (flat_head (length (body_bytes ops)) (body_bytes ops ++ 10 ∷ more))

pub no_head_at : (read whole : List ℕ) → IsFront read whole → IsEnough 9 read whole → ((size : ℕ) (more : List ℕ) → size ≤ MAX_BODY → read ≡ head_bytes size ++ more → ⊥) → (ops : List Op) (more : List ℕ) → IsRecord ops whole more → ⊥
no_head_at read whole is enough none ops more stands =
    let size : ℕ = length (body_bytes ops) in
    let begun = front_begins read whole (head_bytes size) (body_bytes ops ++ 10 ∷ more) 9 is enough (omega (arith, head_length size stands.body)) (headed ops whole more stands) in
    none size begun.0 stands.body begun.1

pub sized_by_head : (ops : List Op) (bytes tail rest : List ℕ) (size : ℕ) → size ≤ MAX_BODY → bytes ≡ head_bytes size ++ tail → IsRecord ops bytes rest → size + 10 ≡ length (record_bytes ops)
sized_by_head ops bytes tail rest size low head is =
    let ends = behind_length size tail (body_bytes ops) rest (omega (arith, low)) is.body (sym (flat_head size tail) ∙ sym head ∙ is.bytes) in
    omega (arith, ends.0, record_length ops is.body)

pub no_record_at : (read whole : List ℕ) (size : ℕ) → IsFront read whole → IsEnough (size + 10) read whole → size ≤ MAX_BODY → read ≡ head_bytes size ++ drop 9 read
    → ((ops : List Op) (rest : List ℕ) → IsRecord ops read rest → ⊥) → (ops : List Op) (more : List ℕ) → IsRecord ops whole more → ⊥
no_record_at read whole size is enough low head none ops more stands =
    let begins = whole_begins read whole (head_bytes size) (drop 9 read) is head in
    let sized = sized_by_head ops whole begins.0 more size low begins.1 stands in
    let begun = front_begins read whole (record_bytes ops) more (size + 10) is enough (omega (arith, sized)) stands.bytes in
    none ops begun.0 (record { bytes = begun.1; some = stands.some; each = stands.each; body = stands.body })

pub record_at : (read area : List ℕ) (place size : ℕ) (ops : List Op) (rest : List ℕ) → IsFront read (drop place area) → size + 10 ≡ length (record_bytes ops) → IsRecord ops read rest
    → IsRecord ops (drop place area) (drop (place + (size + 10)) area)
record_at read area place size ops rest is sized stands =
    let begins = whole_begins read (drop place area) (record_bytes ops) rest is stands.bytes in
    let behind : begins.0 ≡ drop (place + (size + 10)) area =
    sym (drop_at (record_bytes ops) begins.0 (size + 10) (sym sized)) ∙ ap (drop (size + 10)) (sym begins.1) ∙ drop-drop (size + 10) place area in
    record { bytes = begins.1 ∙ ap (λ (l : List ℕ). record_bytes ops ++ l) behind; some = stands.some; each = stands.each; body = stands.body }

-- the head stays where more is read
pub grown_head : (old new more : List ℕ) (size : ℕ) → size ≤ MAX_BODY → old ≡ head_bytes size ++ drop 9 old → new ≡ old ++ more → new ≡ head_bytes size ++ drop 9 new
grown_head old new more size low head grown =
    let parts : new ≡ head_bytes size ++ (drop 9 old ++ more) =
    grown ∙ ap (λ (l : List ℕ). l ++ more) head ∙ append_assoc (head_bytes size) (drop 9 old) more in
    let behind : drop 9 new ≡ drop 9 old ++ more = ap (drop 9) parts ∙ drop_at (head_bytes size) (drop 9 old ++ more) 9 (head_length size low) in
    parts ∙ ap (λ (l : List ℕ). head_bytes size ++ l) (sym behind)

pub opened_by_head : (read whole : List ℕ) (size : ℕ) → IsFront read whole → read ≡ head_bytes size ++ drop 9 read → (more : List ℕ) × (whole ≡ 0x7B ∷ more)
opened_by_head read whole size is head = gate_at read whole 0x7B (padded 7 size ++ 32 ∷ drop 9 read) is (head ∙ flat_head size (drop 9 read))

pub long_enough : (ops : List Op) (bytes rest : List ℕ) (size : ℕ) → size ≤ MAX_BODY → bytes ≡ head_bytes size ++ drop 9 bytes → IsRecord ops bytes rest → size + 10 ≤ length bytes
long_enough ops bytes rest size low head is =
    omega (arith, sized_by_head ops bytes (drop 9 bytes) rest size low head is, ap length is.bytes, length-append (record_bytes ops) rest)
