-- Two readings of the same bytes: what was read so far is a front of all there is.
use Rattle.std.proofs.Common.{◌≡◌, ◌≢◌, ◌⊎◌, inl, inr, ℕ, ◌^◌, ◌<◌, ◌≤◌, List, [], ◌∷◌, ◌++◌, length, take, drop, get_or, refl, sym, ap, ◌∙◌, subst, arith, decimal, append-nil, append_assoc, length-append}
use Rattle.std.specs.Str.Parse.{digits_value}
use Rattle.std.proofs.lemmas.Fmt.{decimal_is_IsNumeral}
use Rattle.std.proofs.lemmas.List.{drop_at, take-append-drop, take-append-le, take_at}
use Rattle.spool_queue.specs.Log.{Log, Empty, Then, AreRecords, MayFollow, log_bytes, payloads}
use Rattle.spool_queue.specs.Records.{Record, Event, Settlement, body_of, kind_of, record_bytes}
use Rattle.spool_queue.specs.Spool.{BreaksAt, EndsAt, Reaches}
use Rattle.spool_queue.proofs.Heads.{ended_by, flat_record, head_of, stands}
use Rattle.spool_queue.proofs.Steps.{short_body}

-- the one is a front of the other
abbrev pub Extends : Log → Log → Type 0
Extends part Empty = part ≡ Empty
Extends part (Then log one) = (part ≡ Then log one) ⊎ Extends part log

itself : (log : Log) → Extends log log
itself Empty = refl
itself (Then log one) = inl refl

from_nothing : (log : Log) → Extends Empty log
from_nothing Empty = refl
from_nothing (Then log one) = inr (from_nothing log)

next_of : (part whole : Log) → Extends part whole → (part ≡ whole) ⊎ ((one : Record) × Extends (Then part one) whole)
next_of part Empty is = inl is
next_of part (Then log one) (inl same) = inl same
next_of part (Then log one) (inr front) = elim (next_of part log front) [
  | inl same ↦ inr (one, inl (ap (λ (l : Log). Then l one) same))
  | inr more ↦ inr (more.0, inr more.1)
]

pub bytes_on : (part whole : Log) → Extends part whole → (more : List ℕ) × (log_bytes whole ≡ log_bytes part ++ more)
bytes_on part Empty is = ([], ap log_bytes (sym is) ∙ sym (append-nil (log_bytes part)))
bytes_on part (Then log one) (inl same) = ([], ap log_bytes (sym same) ∙ sym (append-nil (log_bytes part)))
bytes_on part (Then log one) (inr front) =
    let on = bytes_on part log front in (on.0 ++ record_bytes one, ap (λ (l : List ℕ). l ++ record_bytes one) on.1 ∙ append_assoc (log_bytes part) on.0 (record_bytes one))

pub payloads_on : (part whole : Log) → Extends part whole → (more : List (List ℕ)) × (payloads whole ≡ payloads part ++ more)
payloads_on part Empty is = ([], ap payloads (sym is) ∙ sym (append-nil (payloads part)))
payloads_on part (Then log one) (inl same) = ([], ap payloads (sym same) ∙ sym (append-nil (payloads part)))
payloads_on part (Then log (Event payload)) (inr front) =
    let on = payloads_on part log front in (on.0 ++ payload ∷ [], ap (λ (l : List (List ℕ)). l ++ payload ∷ []) on.1 ∙ append_assoc (payloads part) on.0 (payload ∷ []))
payloads_on part (Then log (Settlement count)) (inr front) = payloads_on part log front

records_on : (part whole : Log) → Extends part whole → AreRecords whole → AreRecords part
records_on part Empty is each = subst AreRecords (sym is) each
records_on part (Then log one) (inl same) each = subst AreRecords (sym same) each
records_on part (Then log one) (inr front) each = records_on part log front each.0

-- ---- one record

same_number : (m n : ℕ) → m < 2 ^ 64 → n < 2 ^ 64 → decimal m ≡ decimal n → m ≡ n
same_number m n low less same = sym (decimal_is_IsNumeral m low).1 ∙ ap (digits_value 10) same ∙ (decimal_is_IsNumeral n less).1

same_record : (log : Log) (one other : Record) → length (payloads log) < 2 ^ 64 → MayFollow log one → MayFollow log other → kind_of one ≡ kind_of other → body_of one ≡ body_of other → one ≡ other
same_record log (Event payload) (Event other) few may too kinds bodies = ap Event bodies
same_record log (Event payload) (Settlement count) few may too kinds bodies = absurd (omega (arith, kinds))
same_record log (Settlement count) (Event payload) few may too kinds bodies = absurd (omega (arith, kinds))
same_record log (Settlement count) (Settlement other) few may too kinds bodies = ap Settlement (same_number count other (omega (arith, few, may.1)) (omega (arith, few, too.1)) bodies)

one_record : (log : Log) (one other : Record) (rest more : List ℕ) → length (payloads log) < 2 ^ 64 → MayFollow log one → MayFollow log other → record_bytes one ++ rest ≡ record_bytes other ++ more → one ≡ other
one_record log one other rest more few may too same =
    let bytes : List ℕ = record_bytes one ++ rest in
    let low = short_body log one may few in
    let head = head_of bytes one rest low refl in
    let there = stands bytes (length (body_of one)) (kind_of one) one rest low low head refl in
    let other_there = stands bytes (length (body_of one)) (kind_of one) other more low (short_body log other too few) head same in
    let mine = ended_by (drop 13 bytes) (body_of one) rest (length (body_of one)) there.sized there.tail in
    let its = ended_by (drop 13 bytes) (body_of other) more (length (body_of one)) other_there.sized other_there.tail in
    same_record log one other few may too other_there.kinds (sym mine.0 ∙ its.0)

opens : (one : Record) (rest : List ℕ) (gate : ℕ) (more : List ℕ) → record_bytes one ++ rest ≡ gate ∷ more → 0x7B ≡ gate
opens one rest gate more same = ap (λ (l : List ℕ). get_or l 0 0) (sym (flat_record (kind_of one) (body_of one) rest) ∙ same)

cancelled : (front one other : List ℕ) → front ++ one ≡ front ++ other → one ≡ other
cancelled front one other same = sym (drop_at front one (length front) refl) ∙ ap (drop (length front)) same ∙ drop_at front other (length front) refl

-- ---- logs

fewer : (log : Log) (one : Record) → length (payloads log) ≤ length (payloads (Then log one))
fewer log (Event payload) = omega (arith, length-append (payloads log) (payload ∷ []))
fewer log (Settlement count) = omega arith

-- records that were read are a front of those that end at a gate that is not open
pub extends : (part whole : Log) (rest more : List ℕ) (gate : ℕ) → AreRecords part → AreRecords whole → length (payloads part) < 2 ^ 64 → gate ≢ 0x7B → log_bytes part ++ rest ≡ log_bytes whole ++ gate ∷ more → Extends part whole
extends Empty whole rest more gate each all few closed same = from_nothing whole
extends (Then part one) whole rest more gate each all few closed same =
    let low : length (payloads part) < 2 ^ 64 = omega (arith, few, fewer part one) in
    let front = extends part whole (record_bytes one ++ rest) more gate each.0 all low closed (sym (append_assoc (log_bytes part) (record_bytes one) rest) ∙ same) in
    elim (next_of part whole front) [
      | inl is ↦
          let behind = cancelled (log_bytes part) (record_bytes one ++ rest) (gate ∷ more) (sym (append_assoc (log_bytes part) (record_bytes one) rest) ∙ same ∙ ap (λ (l : Log). log_bytes l ++ gate ∷ more) (sym is)) in
          absurd (closed (sym (opens one rest gate more behind)))
      | inr further ↦
          let on = bytes_on (Then part further.0) whole further.1 in
          let may = (records_on (Then part further.0) whole further.1 all).1 in
          let bytes : log_bytes part ++ (record_bytes one ++ rest) ≡ log_bytes part ++ (record_bytes further.0 ++ (on.0 ++ gate ∷ more)) =
          sym (append_assoc (log_bytes part) (record_bytes one) rest) ∙ same ∙ ap (λ (l : List ℕ). l ++ gate ∷ more) on.1 ∙ append_assoc (log_bytes part ++ record_bytes further.0) on.0 (gate ∷ more)
          ∙ append_assoc (log_bytes part) (record_bytes further.0) (on.0 ++ gate ∷ more) in
          let is = one_record part one further.0 rest (on.0 ++ gate ∷ more) low each.1 may (cancelled (log_bytes part) _ _ bytes) in
          let E : Record → Type 0 = λ r. Extends (Then part r) whole in
          subst E (sym is) further.1
    ]

-- what was read of a spool is a front of its records
pub read_front : (bytes : List ℕ) (part whole : Log) (place end : ℕ) (rest : List ℕ) → Reaches bytes part place rest → length (payloads part) < 2 ^ 64 → EndsAt bytes whole end → Extends part whole
read_front bytes part whole place end rest is few ends =
    extends part whole rest ends.rest ends.gate is.each ends.reaches.each few ends.closed (sym is.bytes ∙ ends.reaches.bytes)

-- what stands behind a front of the records
data Behind (part whole : Log) (rest : List ℕ) (gate : ℕ) (more : List ℕ) : Type 0 where
  All_read : part ≡ whole → rest ≡ gate ∷ more → Behind part whole rest gate more
  One_more : (one : Record) (later : List ℕ) → rest ≡ record_bytes one ++ later → MayFollow part one → Behind part whole rest gate more

behind_front : (bytes : List ℕ) (part whole : Log) (place end : ℕ) (rest : List ℕ) → (is : Reaches bytes part place rest) → length (payloads part) < 2 ^ 64 → (ends : EndsAt bytes whole end) → Behind part whole rest ends.gate ends.rest
behind_front bytes part whole place end rest is few ends =
    let same : log_bytes part ++ rest ≡ log_bytes whole ++ ends.gate ∷ ends.rest = sym is.bytes ∙ ends.reaches.bytes in
    elim (next_of part whole (read_front bytes part whole place end rest is few ends)) [
      | inl all ↦ All_read all (cancelled (log_bytes part) rest (ends.gate ∷ ends.rest) (same ∙ ap (λ (l : Log). log_bytes l ++ ends.gate ∷ ends.rest) (sym all)))
      | inr further ↦
          let on = bytes_on (Then part further.0) whole further.1 in
          One_more further.0 (on.0 ++ ends.gate ∷ ends.rest)
          (cancelled (log_bytes part) rest (record_bytes further.0 ++ (on.0 ++ ends.gate ∷ ends.rest))
          (same ∙ ap (λ (l : List ℕ). l ++ ends.gate ∷ ends.rest) on.1 ∙ append_assoc (log_bytes part ++ record_bytes further.0) on.0 (ends.gate ∷ ends.rest)
          ∙ append_assoc (log_bytes part) (record_bytes further.0) (on.0 ++ ends.gate ∷ ends.rest)))
          (records_on (Then part further.0) whole further.1 ends.reaches.each).1
    ]

pub one_end : (bytes : List ℕ) (part whole : Log) (place end : ℕ) → EndsAt bytes part place → length (payloads part) < 2 ^ 64 → EndsAt bytes whole end → part ≡ whole
one_end bytes part whole place end first few ends = by_case (behind_front bytes part whole place end (first.gate ∷ first.rest) first.reaches few ends)
  where
    by_case : Behind part whole (first.gate ∷ first.rest) ends.gate ends.rest → part ≡ whole
    by_case (All_read all same) = all
    by_case (One_more one later same may) = absurd (first.closed (sym (opens one later first.gate first.rest (sym same))))

pub no_break : (bytes : List ℕ) (part whole : Log) (place end : ℕ) → BreaksAt bytes part place → length (payloads part) < 2 ^ 64 → EndsAt bytes whole end → ⊥
no_break bytes part whole place end (inl lacks) few ends = by_case (behind_front bytes part whole place end (0x7B ∷ lacks.rest) lacks.reaches few ends)
  where
    by_case : Behind part whole (0x7B ∷ lacks.rest) ends.gate ends.rest → ⊥
    by_case (All_read all same) = ends.closed (sym (ap (λ (l : List ℕ). get_or l 0 0) same))
    by_case (One_more one later same may) = lacks.no_record (one, later, same, may)
no_break bytes part whole place end (inr reaches) few ends = by_case (behind_front bytes part whole place end [] reaches few ends)
  where
    by_case : Behind part whole [] ends.gate ends.rest → ⊥
    by_case (All_read all same) = cc same
    by_case (One_more one later same may) = absurd (omega (arith, ap length (same ∙ flat_record (kind_of one) (body_of one) later)))

-- ---- two places at which the same bytes break

front_bytes : (a r b s : List ℕ) → a ++ r ≡ b ++ s → length a ≤ length b → b ≡ a ++ drop (length a) b
front_bytes a r b s same short =
    let front : take (length a) b ≡ a = sym (take-append-le (length a) b s short) ∙ ap (take (length a)) (sym same) ∙ take_at a r (length a) refl in
    sym (take-append-drop (length a) b) ∙ ap (λ (l : List ℕ). l ++ drop (length a) b) front

rest_of : (spool : List ℕ) (log : Log) (at : ℕ) → BreaksAt spool log at → (rest : List ℕ) × Reaches spool log at rest × ((one : Record) (later : List ℕ) → rest ≡ record_bytes one ++ later → MayFollow log one → ⊥)
rest_of spool log at (inl lacks) = (0x7B ∷ lacks.rest, lacks.reaches, λ one later same may. lacks.no_record (one, later, same, may))
rest_of spool log at (inr reaches) = ([], reaches, λ one later same may. absurd (omega (arith, ap length (same ∙ flat_record (kind_of one) (body_of one) later))))

-- behind the one that stands in front nothing was read
pub no_later : (bytes : List ℕ) (part whole : Log) (at other : ℕ) (rest : List ℕ) → BreaksAt bytes part at → Reaches bytes whole other rest → length (payloads part) < 2 ^ 64 → at ≤ other → at ≡ other
no_later bytes part whole at other rest breaks reaches few early =
    let broken = rest_of bytes part at breaks in
    let here = broken.1 in
    let same : log_bytes part ++ broken.0 ≡ log_bytes whole ++ rest = sym here.bytes ∙ reaches.bytes in
    let between : List ℕ = drop (length (log_bytes part)) (log_bytes whole) in
    let front : log_bytes whole ≡ log_bytes part ++ between = front_bytes (log_bytes part) broken.0 (log_bytes whole) rest same (omega (arith, early, here.begins, reaches.begins)) in
    let cut : List ℕ = log_bytes whole ++ 46 ∷ [] in
    let ends : EndsAt cut whole other = record { gate = 46; rest = []; reaches = record { each = reaches.each; bytes = refl; begins = reaches.begins }; closed = λ is. omega (arith, is) } in
    let first : Reaches cut part at (between ++ 46 ∷ []) = record { each = here.each; bytes = ap (λ (l : List ℕ). l ++ 46 ∷ []) front ∙ append_assoc (log_bytes part) between (46 ∷ []); begins = here.begins } in
    elim (next_of part whole (read_front cut part whole at other (between ++ 46 ∷ []) first few ends)) [
      | inl all ↦ sym here.begins ∙ ap (λ (l : Log). length (log_bytes l)) all ∙ reaches.begins
      | inr further ↦
          let on = bytes_on (Then part further.0) whole further.1 in
          let next : log_bytes part ++ broken.0 ≡ log_bytes part ++ (record_bytes further.0 ++ (on.0 ++ rest)) =
          same ∙ ap (λ (l : List ℕ). l ++ rest) on.1 ∙ append_assoc (log_bytes part ++ record_bytes further.0) on.0 rest ∙ append_assoc (log_bytes part) (record_bytes further.0) (on.0 ++ rest) in
          absurd (broken.2 further.0 (on.0 ++ rest) (cancelled (log_bytes part) _ _ next) (records_on (Then part further.0) whole further.1 reaches.each).1)
    ]
