-- Bytes are read in one way.
use Rattle.std.proofs.Common.{◌≡◌, inl, inr, ℕ, ◌<◌, ◌≤◌, ◌^◌, List, [], ◌∷◌, ◌++◌, length, sym, ap, ◌∙◌, arith, length-append}
use Rattle.std.proofs.lemmas.Bool.{cases_lt}
use Rattle.wire_base.specs.Ranges.{IsPlace}
use Rattle.spool_queue.specs.Log.{Log, Empty, Then, log_bytes, outstanding, payloads}
use Rattle.spool_queue.specs.Records.{Event, Settlement, head_bytes, record_bytes}
use Rattle.spool_queue.specs.Spool.{BreaksAt, IsBad, IsReadAs, Reaches}
use Rattle.spool_queue.proofs.Logs.{no_break, no_later, one_end}

-- each record has bytes
no_more_payloads : (log : Log) → length (payloads log) ≤ length (log_bytes log)
no_more_payloads Empty = omega arith
no_more_payloads (Then log (Event payload)) =
    omega (arith, no_more_payloads log, length-append (payloads log) (payload ∷ []), length-append (log_bytes log) (record_bytes (Event payload)), length-append (head_bytes (length payload) 0x65) (payload ++ 10 ∷ []))
no_more_payloads (Then log (Settlement count)) = omega (arith, no_more_payloads log, length-append (log_bytes log) (record_bytes (Settlement count)))

few_payloads : (bytes : List ℕ) (log : Log) (place : ℕ) (rest : List ℕ) → IsPlace (length bytes) → Reaches bytes log place rest → length (payloads log) < 2 ^ 64
few_payloads bytes log place rest small is = omega (arith, small, no_more_payloads log, ap length is.bytes, length-append (log_bytes log) rest)

pub one_list : (bytes : List ℕ) (one other : List (List ℕ)) → IsPlace (length bytes) → IsReadAs bytes one → IsReadAs bytes other → one ≡ other
one_list bytes one other small (inl first) (inl second) = first.1 ∙ sym second.1
one_list bytes one other small (inl first) (inr second) = absurd (omega (arith, first.0, second.0))
one_list bytes one other small (inr first) (inl second) = absurd (omega (arith, first.0, second.0))
one_list bytes one other small (inr (long, (log, end, ends, is))) (inr (longer, (log', end', ends', is'))) =
    sym is ∙ ap outstanding (one_end bytes log log' end end' ends (few_payloads bytes log end (ends.gate ∷ ends.rest) small ends.reaches) ends') ∙ is'

pub never_both : (bytes : List ℕ) (list : List (List ℕ)) (at : ℕ) → IsPlace (length bytes) → IsReadAs bytes list → IsBad bytes at → ⊥
never_both bytes list at small (inl short) bad = omega (arith, short.0, bad.0)
never_both bytes list at small (inr (long, (log, end, ends, is))) (longer, (part, inl lacks)) =
    no_break bytes part log at end (inl lacks) (few_payloads bytes part at (0x7B ∷ lacks.rest) small lacks.reaches) ends
never_both bytes list at small (inr (long, (log, end, ends, is))) (longer, (part, inr reaches)) =
    no_break bytes part log at end (inr reaches) (few_payloads bytes part at [] small reaches) ends

breaks_reach : (bytes : List ℕ) (log : Log) (at : ℕ) → BreaksAt bytes log at → (rest : List ℕ) × Reaches bytes log at rest
breaks_reach bytes log at (inl lacks) = (0x7B ∷ lacks.rest, lacks.reaches)
breaks_reach bytes log at (inr reaches) = ([], reaches)

pub one_place : (bytes : List ℕ) (at other : ℕ) → IsPlace (length bytes) → IsBad bytes at → IsBad bytes other → at ≡ other
one_place bytes at other small (long, (part, breaks)) (longer, (whole, too)) =
    let first = breaks_reach bytes part at breaks in
    let second = breaks_reach bytes whole other too in
    elim (cases_lt at other) [
      | inl early ↦ no_later bytes part whole at other second.0 breaks second.1 (few_payloads bytes part at first.0 small first.1) (omega (arith, early))
      | inr late ↦ sym (no_later bytes whole part other at first.0 too first.1 (few_payloads bytes whole other second.0 small second.1) (omega (arith, late)))
    ]
