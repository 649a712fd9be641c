-- Peers' faults of a talk: where they occur, when there is none, and that they stay.
use Rattle.std.proofs.Common.{◌≡◌, ℕ, zero, suc, ◌+◌, ◌*◌, ◌^◌, ◌<◌, ◌≤◌, ◌&&◌, Bool, true, false, cond, eqb, List, [], ◌∷◌, ◌++◌, length, get_or, slice_index, drop, take, lit<, refl, sym, ap, subst, ◌∙◌, append_assoc, arith, inl, inr}
use Rattle.std.specs.Int.{w32, from_be_bytes}
use Rattle.std.specs.List.{All, AllByRecursion, flat_map}
use Rattle.std.proofs.Math.Seq.{get_or-append_seam}
use Rattle.std.proofs.lemmas.Bool.{eqb-true}
use Rattle.std.proofs.lemmas.Bool.Decides.{eqb_tells}
use Rattle.std.proofs.lemmas.List.{length-append, length-take, append-nil, drop_at, take_at, take-append-le, get_or_append_left, get_or_past}
use Rattle.std.proofs.lemmas.List.Concat.{flat_map-append}
use Rattle.std.proofs.lemmas.List.Elements.{recursion_from_All}
use Rattle.wire_base.specs.declared.talk.Piece.{Piece}
use Rattle.lumber_frame.specs.declared.frame.Frame.TheVariants.{Ack}
use Rattle.lumber_frame.specs.Frame.{BeginsWithFrame, frame_bytes}
use Rattle.lumber_frame.specs.Talk.{in_bytes, out_bytes, out_before}
use Rattle.lumber_frame.specs.Window.{window_bytes, AreWindows, IsWindow}
use Rattle.lumber_frame.specs.Acknowledged.{Answer, acknowledgements, answers, asked, count_at}
use Rattle.lumber_frame.specs.Settled.{IsSettled, ack_bytes}
use Rattle.lumber_frame.specs.PeerFault.{BeginsNoAcknowledgement, HasPeerFault, IsAboveCount}
use Rattle.lumber_frame.proofs.Frames.{IsBytes, byte_stays, spelled}
use Rattle.lumber_frame.proofs.Readings.{ack_front}
use Rattle.lumber_frame.proofs.WindowBytes.{are_once}
use Rattle.lumber_frame.proofs.Asking.{answers_next, asked_most, faultless_next, whole_most}
use Rattle.lumber_frame.proofs.Answering.{both, unless}
use Rattle.lumber_frame.proofs.Settling.{none_in_nothing, numbers_read, windows_are}
use Rattle.lumber_frame.proofs.Staying.{in_append, answers_stay, asked_stays, before_stays, before_most, count_stays, numbers_more, numbers_fit}
use Rattle.lumber_frame.proofs.GoingOn.{GoesOn, all_both, goes_on}
use Rattle.lumber_frame.proofs.OneMoreWindow.{IsSent, asked_then, count_last, faultless_then, length-acks, received_first, sent_first, sent_then, small_too}

-- ---- bytes that begin no acknowledgement

-- they begin none however they go on
begins_none : (bytes more : List ℕ) → BeginsNoAcknowledgement bytes → BeginsNoAcknowledgement (bytes ++ more)
begins_none bytes more (inl first) =
    inl (record { there = omega (arith, length-append bytes more, first.there); version = λ e. first.version (sym (byte_stays bytes more 0 first.there) ∙ e) })
begins_none bytes more (inr second) =
    inr (omega (arith, length-append bytes more, second.0), λ e. second.1 (sym (byte_stays bytes more 1 second.0) ∙ e))

not_in_front : (number : ℕ) (rest : List ℕ) → BeginsNoAcknowledgement (frame_bytes (Ack number) ++ rest) → ⊥
not_in_front number rest (inl first) = first.version refl
not_in_front number rest (inr second) = second.1 refl

-- no acknowledgement begins with them
pub no_frame : (bytes more : List ℕ) (number used : ℕ) → BeginsNoAcknowledgement bytes → BeginsWithFrame (bytes ++ more) (Ack number) used → ⊥
no_frame bytes more number used none begins =
    not_in_front number (drop used (bytes ++ more)) (subst (λ (all : List ℕ). BeginsNoAcknowledgement all) (spelled (bytes ++ more) (Ack number) used begins) (begins_none bytes more none))

each_small : (bytes : List ℕ) → AllByRecursion (λ byte. byte < 256) bytes → IsBytes bytes
each_small [] small i = omega (arith, get_or_past {X = ℕ} [] i 0)
each_small (byte ∷ bytes) small zero = small.0
each_small (byte ∷ bytes) small (suc i) = each_small bytes small.1 i

-- six bytes that are an acknowledgement, and the bytes after them
six_begin : (v k : ℕ) (rest : List ℕ) → v ≡ 0x32 → k ≡ 0x41 → AllByRecursion (λ byte. byte < 256) rest → 4 ≤ length rest → BeginsWithFrame (v ∷ k ∷ rest) (Ack (from_be_bytes w32 (take 4 rest))) 6
six_begin v k rest version kind small long =
    ack_front (v ∷ k ∷ rest) (from_be_bytes w32 (take 4 rest)) (each_small (v ∷ k ∷ rest) (omega (arith, version), (omega (arith, kind), small))) (omega arith) version kind refl

-- bytes with which no acknowledgement begins
pub no_more : (bytes : List ℕ) → All (λ byte. byte < 256) bytes → ((more : List ℕ) (number used : ℕ) → BeginsWithFrame (bytes ++ more) (Ack number) used → ⊥) → BeginsNoAcknowledgement bytes
no_more bytes small none = by_cells bytes (recursion_from_All (λ byte. byte < 256) bytes small) none
  where
    zeros : AllByRecursion (λ byte. byte < 256) (0 ∷ 0 ∷ 0 ∷ 0 ∷ [])
    zeros = (lit< tt, (lit< tt, (lit< tt, (lit< tt, tt))))

    by_cells : (bytes : List ℕ) → AllByRecursion (λ byte. byte < 256) bytes → ((more : List ℕ) (number used : ℕ) → BeginsWithFrame (bytes ++ more) (Ack number) used → ⊥) → BeginsNoAcknowledgement bytes
    by_cells [] small none = absurd (none (0x32 ∷ 0x41 ∷ 0 ∷ 0 ∷ 0 ∷ 0 ∷ []) _ 6 (six_begin 0x32 0x41 (0 ∷ 0 ∷ 0 ∷ 0 ∷ []) refl refl zeros (omega arith)))
    by_cells (v ∷ []) small none =
        elim (eqb_tells v 0x32) [
          | inl is ↦ absurd (none (0x41 ∷ 0 ∷ 0 ∷ 0 ∷ 0 ∷ []) _ 6 (six_begin v 0x41 (0 ∷ 0 ∷ 0 ∷ 0 ∷ []) is.1 refl zeros (omega arith)))
          | inr other ↦ inl (record { there = omega arith; version = other.1 })
        ]
    by_cells (v ∷ k ∷ bytes) small none =
        elim (eqb_tells v 0x32) [
          | inr other ↦ inl (record { there = omega arith; version = other.1 })
          | inl version ↦ elim (eqb_tells k 0x41) [
            | inr other ↦ inr (omega arith, other.1)
            | inl kind ↦
                absurd (none (0 ∷ 0 ∷ 0 ∷ 0 ∷ []) _ 6 (six_begin v k (bytes ++ 0 ∷ 0 ∷ 0 ∷ 0 ∷ []) version.1 kind.1 (all_both (λ byte. byte < 256) bytes (0 ∷ 0 ∷ 0 ∷ 0 ∷ []) small.1.1 zeros) (omega (arith, length-append bytes (0 ∷ 0 ∷ 0 ∷ 0 ∷ [])))))
          ]
        ]

-- no number is read of them
no_numbers : (bytes : List ℕ) → BeginsNoAcknowledgement bytes → acknowledgements bytes ≡ []
no_numbers [] none = refl
no_numbers (v ∷ []) none = refl
no_numbers (v ∷ k ∷ []) none = refl
no_numbers (v ∷ k ∷ a ∷ []) none = refl
no_numbers (v ∷ k ∷ a ∷ b ∷ []) none = refl
no_numbers (v ∷ k ∷ a ∷ b ∷ c ∷ []) none = refl
no_numbers (v ∷ k ∷ a ∷ b ∷ c ∷ d ∷ bytes) none =
    unless (eqb v 0x32 && eqb k 0x41) (from_be_bytes w32 (a ∷ b ∷ c ∷ d ∷ []) ∷ acknowledgements bytes) [] (λ is.
    let tests = both (eqb v 0x32) (eqb k 0x41) is in
    elim none [
      | inl first ↦ first.version (eqb-true v 0x32 tests.0)
      | inr second ↦ second.1 (eqb-true k 0x41 tests.1)
    ])

-- what follows the acknowledgements
pub behind_is : (bytes : List ℕ) (numbers tail : List ℕ) → bytes ≡ ack_bytes numbers ++ tail → AllByRecursion (λ number. number < 2 ^ 32) numbers → acknowledgements tail ≡ [] → (acknowledgements bytes ≡ numbers) × (drop (6 * length (acknowledgements bytes)) bytes ≡ tail)
behind_is bytes numbers tail is small none =
    let read : acknowledgements bytes ≡ numbers = ap acknowledgements is ∙ numbers_read numbers tail small ∙ ap (λ (others : List ℕ). numbers ++ others) none ∙ append-nil numbers in (
      read,
      ap (λ (all : List ℕ). drop (6 * length (acknowledgements bytes)) all) is ∙ drop_at (ack_bytes numbers) tail (6 * length (acknowledgements bytes)) (omega (arith, length-acks numbers, ap length read)),
    )

-- ---- a fault is met

-- what is received with one more window
pub received_then : (talk more : List Piece) (windows : List (List (List ℕ))) (numbers bytes : List ℕ) (settled : IsSettled talk windows) → in_bytes more ≡ ack_bytes numbers ++ bytes → in_bytes (talk ++ more) ≡ ack_bytes (settled.numbers ++ numbers) ++ bytes
received_then talk more windows numbers bytes settled received =
    in_append talk more ∙ ap (λ (front : List ℕ). front ++ in_bytes more) settled.received ∙ ap (λ (tail : List ℕ). ack_bytes settled.numbers ++ tail) received ∙ sym (append_assoc (ack_bytes settled.numbers) (ack_bytes numbers) bytes) ∙ ap (λ (front : List ℕ). front ++ bytes) (sym (flat_map-append (λ number. frame_bytes (Ack number)) settled.numbers numbers))

-- the windows then
pub windows_then : (talk more : List Piece) (windows : List (List (List ℕ))) (payloads : List (List ℕ)) → IsSettled talk windows → IsSent more payloads → AreWindows (out_bytes (talk ++ more)) (windows ++ payloads ∷ [])
windows_then talk more windows payloads settled window = record {
  each = all_both IsWindow windows (payloads ∷ []) settled.each (window.is, tt);
  rest = [];
  whole = sent_then talk more windows payloads settled window ∙ sym (append-nil (flat_map window_bytes (windows ++ payloads ∷ [])));
  cut = none_in_nothing;
}

-- the numbers then take four bytes
small_then : (talk : List Piece) (windows : List (List (List ℕ))) (payloads : List (List ℕ)) (numbers : List ℕ) (settled : IsSettled talk windows) → IsWindow payloads → All (λ number. number ≤ length payloads) numbers → AllByRecursion (λ number. number < 2 ^ 32) (settled.numbers ++ numbers)
small_then talk windows payloads numbers settled is few =
    all_both (λ number. number < 2 ^ 32) settled.numbers numbers settled.small (small_too (length payloads) numbers is.few (recursion_from_All (λ number. number ≤ length payloads) numbers few))

-- bytes that begin no acknowledgement
pub met_behind : (talk sent heard : List Piece) (windows : List (List (List ℕ))) (payloads : List (List ℕ)) (numbers bytes : List ℕ) → IsSettled talk windows → IsWindow payloads → out_bytes sent ≡ window_bytes payloads → in_bytes sent ≡ [] → out_bytes heard ≡ [] → in_bytes heard ≡ ack_bytes numbers ++ bytes → All (λ number. number ≤ length payloads) numbers → BeginsNoAcknowledgement bytes → HasPeerFault ((talk ++ sent) ++ heard)
met_behind talk sent heard windows payloads numbers bytes settled is out silent quiet received few none =
    let more = sent ++ heard in
    let window = sent_first sent heard payloads is out silent quiet in
    let all = received_then talk more windows numbers bytes settled (received_first sent heard (ack_bytes numbers ++ bytes) silent received) in
    let behind = behind_is (in_bytes (talk ++ more)) (settled.numbers ++ numbers) bytes all (small_then talk windows payloads numbers settled is few) (no_numbers bytes none) in
    let fault : HasPeerFault (talk ++ more) = record {
      windows = windows ++ payloads ∷ [];
      sent = windows_then talk more windows payloads settled window;
      fault = inr (subst (λ (tail : List ℕ). BeginsNoAcknowledgement tail) (sym behind.1) none);
    } in
    subst (λ (pieces : List Piece). HasPeerFault pieces) (sym (append_assoc talk sent heard)) fault

-- a number above the count
pub met_above : (talk sent heard : List Piece) (windows : List (List (List ℕ))) (payloads : List (List ℕ)) (numbers bytes : List ℕ) (number : ℕ) → IsSettled talk windows → IsWindow payloads → out_bytes sent ≡ window_bytes payloads → in_bytes sent ≡ [] → out_bytes heard ≡ [] → in_bytes heard ≡ ack_bytes (numbers ++ number ∷ []) ++ bytes → All (λ number. number ≤ length payloads) numbers → number < 2 ^ 32 → length payloads < number → HasPeerFault ((talk ++ sent) ++ heard)
met_above talk sent heard windows payloads numbers bytes number settled is out silent quiet received few small many =
    let more = sent ++ heard in
    let all = windows ++ payloads ∷ [] in
    let old = settled.numbers ++ numbers in
    let index = length old in
    let others = acknowledgements bytes in
    let window = sent_first sent heard payloads is out silent quiet in
    let spelled_out = received_then talk more windows (numbers ++ number ∷ []) bytes settled (received_first sent heard (ack_bytes (numbers ++ number ∷ []) ++ bytes) silent received) in
    let joined : settled.numbers ++ (numbers ++ number ∷ []) ≡ old ++ number ∷ [] = sym (append_assoc settled.numbers numbers (number ∷ [])) in
    let fits : AllByRecursion (λ n. n < 2 ^ 32) (old ++ number ∷ []) = all_both (λ n. n < 2 ^ 32) old (number ∷ []) (small_then talk windows payloads numbers settled is few) (small, tt) in
    let read : acknowledgements (in_bytes (talk ++ more)) ≡ old ++ number ∷ others =
    ap acknowledgements (spelled_out ∙ ap (λ (ns : List ℕ). ack_bytes ns ++ bytes) joined) ∙ numbers_read (old ++ number ∷ []) bytes fits ∙ append_assoc old (number ∷ []) others in
    let each = recursion_from_All (λ n. n ≤ length payloads) numbers few in
    let taken : take index (acknowledgements (in_bytes (talk ++ more))) ≡ old = ap (take index) read ∙ take_at old (number ∷ others) index refl in
    let asks = ap (λ (ns : List ℕ). asked all (answers all (talk ++ more) [] 0 ns) (out_before (talk ++ more) (6 * index))) taken ∙ asked_then talk more windows payloads numbers settled window each (6 * index) (omega (arith, length-append settled.numbers numbers)) in
    let fault : HasPeerFault (talk ++ more) = record {
      windows = all;
      sent = windows_then talk more windows payloads settled window;
      fault = inl (
        index,
        record {
          there = omega (arith, ap length read, length-append old (number ∷ others));
          earlier = ap (λ (ns : List ℕ). length (answers all (talk ++ more) [] 0 ns)) taken ∙ faultless_then talk more windows payloads numbers settled window each;
          above = omega (arith, ap (count_at all) asks, count_last windows payloads, many, ap (λ (ns : List ℕ). slice_index ns index) read, get_or-append_seam old number others 0);
        },
      );
    } in
    subst (λ (pieces : List Piece). HasPeerFault pieces) (sym (append_assoc talk sent heard)) fault

-- ---- there is no fault

-- if each acknowledgement has an answer, none is above the count
pub few_each : (windows : List (List (List ℕ))) (talk : List Piece) (given : List Answer) (place : ℕ) (numbers : List ℕ) (index : ℕ) → length (answers windows talk given place numbers) ≡ length given + length numbers → index < length numbers → get_or numbers index 0 ≤ count_at windows (asked windows (answers windows talk given place (take index numbers)) (out_before talk (place + 6 * index)))
few_each windows talk given place [] index faultless there = absurd (omega arith)
few_each windows talk given place (number ∷ numbers) zero faultless there =
    let here : place + 6 * 0 ≡ place = omega arith in
    let first = faultless_next windows talk given place number numbers faultless in
    omega (arith, first.0, ap (λ (p : ℕ). count_at windows (asked windows given (out_before talk p))) here)
few_each windows talk given place (number ∷ numbers) (suc index) faultless there =
    let window = asked windows given (out_before talk place) in
    let more = given ++ record { window = window; number = number } ∷ [] in
    let next : place + 6 + 6 * index ≡ place + 6 * suc index = omega arith in
    let first = faultless_next windows talk given place number numbers faultless in
    let taken = answers_next windows talk given place number (take index numbers) first.0 in
    let front = answers windows talk more (place + 6) (take index numbers) in
    omega (arith, few_each windows talk more (place + 6) numbers index first.1 (omega arith), ap (λ (p : ℕ). count_at windows (asked windows front (out_before talk p))) next, ap (λ (all : List Answer). count_at windows (asked windows all (out_before talk (place + 6 * suc index)))) taken)

-- where each acknowledgement has an answer, and another may begin after them
pub no_fault : (talk : List Piece) (windows : List (List (List ℕ))) (numbers bytes : List ℕ) → AreWindows (out_bytes talk) windows → in_bytes talk ≡ ack_bytes numbers ++ bytes → AllByRecursion (λ number. number < 2 ^ 32) numbers → acknowledgements bytes ≡ [] → length (answers windows talk [] 0 numbers) ≡ length numbers → (BeginsNoAcknowledgement bytes → ⊥) → HasPeerFault talk → ⊥
no_fault talk windows numbers bytes sent received small cut faultless begins fault =
    let same = are_once (out_bytes talk) fault.windows windows fault.sent sent in
    let behind = behind_is (in_bytes talk) numbers bytes received small cut in
    elim (fault.fault) [
      | inl high ↦
          let index = high.0 in
          let few = few_each windows talk [] 0 numbers index (omega (arith, faultless)) (omega (arith, high.1.there, ap length behind.0)) in
          let place : 0 + 6 * index ≡ 6 * index = omega arith in
          let read = ap (λ (ns : List ℕ). count_at fault.windows (asked fault.windows (answers fault.windows talk [] 0 (take index ns)) (out_before talk (6 * index)))) behind.0 in
          let count = ap (λ (ws : List (List (List ℕ))). count_at ws (asked ws (answers ws talk [] 0 (take index numbers)) (out_before talk (6 * index)))) same in
          absurd (omega (arith, high.1.above, few, count, read, ap (λ (p : ℕ). count_at windows (asked windows (answers windows talk [] 0 (take index numbers)) (out_before talk p))) place, ap (λ (ns : List ℕ). slice_index ns index) behind.0))
      | inr none ↦ begins (subst (λ (tail : List ℕ). BeginsNoAcknowledgement tail) behind.1 none)
    ]

pub none_begins : BeginsNoAcknowledgement [] → ⊥
none_begins (inl first) = absurd (omega (arith, first.there))
none_begins (inr second) = absurd (omega (arith, second.0))

-- in a settled talk
pub settled_has_none : (talk : List Piece) (windows : List (List (List ℕ))) → IsSettled talk windows → HasPeerFault talk → ⊥
settled_has_none talk windows settled =
    no_fault talk windows settled.numbers [] (windows_are talk windows settled) (settled.received ∙ sym (append-nil (ack_bytes settled.numbers))) settled.small refl settled.faultless none_begins

pub few_read : (bytes : List ℕ) → length bytes < 6 → acknowledgements bytes ≡ []
few_read [] few = refl
few_read (v ∷ []) few = refl
few_read (v ∷ k ∷ []) few = refl
few_read (v ∷ k ∷ a ∷ []) few = refl
few_read (v ∷ k ∷ a ∷ b ∷ []) few = refl
few_read (v ∷ k ∷ a ∷ b ∷ c ∷ []) few = refl
few_read (v ∷ k ∷ a ∷ b ∷ c ∷ d ∷ bytes) few = absurd (omega arith)

-- and none while acknowledgements of one more window are awaited
pub waiting_has_none : (talk sent heard : List Piece) (windows : List (List (List ℕ))) (payloads : List (List ℕ)) (numbers bytes : List ℕ) → IsSettled talk windows → IsWindow payloads → out_bytes sent ≡ window_bytes payloads → in_bytes sent ≡ [] → out_bytes heard ≡ [] → in_bytes heard ≡ ack_bytes numbers ++ bytes → All (λ number. number ≤ length payloads) numbers → length bytes < 6 → (BeginsNoAcknowledgement bytes → ⊥) → HasPeerFault ((talk ++ sent) ++ heard) → ⊥
waiting_has_none talk sent heard windows payloads numbers bytes settled is out silent quiet received few short begins fault =
    let more = sent ++ heard in
    let window = sent_first sent heard payloads is out silent quiet in
    no_fault (talk ++ more) (windows ++ payloads ∷ []) (settled.numbers ++ numbers) bytes
    (windows_then talk more windows payloads settled window)
    (received_then talk more windows numbers bytes settled (received_first sent heard (ack_bytes numbers ++ bytes) silent received))
    (small_then talk windows payloads numbers settled is few)
    (few_read bytes short)
    (faultless_then talk more windows payloads numbers settled window (recursion_from_All (λ number. number ≤ length payloads) numbers few))
    begins
    (subst (λ (pieces : List Piece). HasPeerFault pieces) (append_assoc talk sent heard) fault)

-- ---- a fault stays

-- a number above the count
above_stays : (talk more : List Piece) (windows : List (List (List ℕ))) (on : GoesOn talk more windows) (index : ℕ) → IsAboveCount windows talk index → IsAboveCount (windows ++ on.others) (talk ++ more) index
above_stays talk more windows on index high =
    let numbers = acknowledgements (in_bytes talk) in
    let all = windows ++ on.others in
    let place = 6 * index in
    let behind = numbers_more (in_bytes talk) (in_bytes more) in
    let read = ap acknowledgements (in_append talk more) ∙ behind.1 in
    let front = take index numbers in
    let given = answers windows talk [] 0 front in
    let taken : take index (acknowledgements (in_bytes (talk ++ more))) ≡ front = ap (take index) read ∙ take-append-le index numbers behind.0 (omega (arith, high.there)) in
    let stay = answers_stay windows on.others talk more [] 0 front on.within (omega (arith, length-take index numbers, high.there, numbers_fit (in_bytes talk))) in
    let old : answers all (talk ++ more) [] 0 (take index (acknowledgements (in_bytes (talk ++ more)))) ≡ given = ap (answers all (talk ++ more) [] 0) taken ∙ stay in
    let before = before_stays talk more place (omega (arith, high.there, numbers_fit (in_bytes talk))) in
    let asks = ap (λ (those : List Answer). asked all those (out_before (talk ++ more) place)) old ∙ ap (asked all given) before ∙ asked_stays windows on.others given (out_before talk place) (on.within (out_before talk place) (before_most talk place)) in
    let count = ap (count_at all) asks ∙ count_stays windows on.others (asked windows given (out_before talk place)) (omega (arith, asked_most windows given (out_before talk place), whole_most windows (out_before talk place))) in
    record {
      there = omega (arith, high.there, ap length read, length-append numbers behind.0);
      earlier = ap length old ∙ high.earlier;
      above = omega (arith, high.above, count, ap (λ (ns : List ℕ). slice_index ns index) read, get_or_append_left numbers behind.0 0 index high.there);
    }

-- bytes that begin none follow no acknowledgement
at_front : (bytes : List ℕ) → BeginsNoAcknowledgement bytes → BeginsNoAcknowledgement (drop (6 * length (acknowledgements bytes)) bytes)
at_front bytes none = subst (λ (ns : List ℕ). BeginsNoAcknowledgement (drop (6 * length ns) bytes)) (sym (no_numbers bytes none)) none

-- what follows the acknowledgements is there still
behind_stays : (bytes more : List ℕ) → BeginsNoAcknowledgement (drop (6 * length (acknowledgements bytes)) bytes) → BeginsNoAcknowledgement (drop (6 * length (acknowledgements (bytes ++ more))) (bytes ++ more))
behind_stays [] more none = at_front more (begins_none [] more none)
behind_stays (v ∷ []) more none = at_front (v ∷ more) (begins_none (v ∷ []) more none)
behind_stays (v ∷ k ∷ []) more none = at_front (v ∷ k ∷ more) (begins_none (v ∷ k ∷ []) more none)
behind_stays (v ∷ k ∷ a ∷ []) more none = at_front (v ∷ k ∷ a ∷ more) (begins_none (v ∷ k ∷ a ∷ []) more none)
behind_stays (v ∷ k ∷ a ∷ b ∷ []) more none = at_front (v ∷ k ∷ a ∷ b ∷ more) (begins_none (v ∷ k ∷ a ∷ b ∷ []) more none)
behind_stays (v ∷ k ∷ a ∷ b ∷ c ∷ []) more none = at_front (v ∷ k ∷ a ∷ b ∷ c ∷ more) (begins_none (v ∷ k ∷ a ∷ b ∷ c ∷ []) more none)
behind_stays (v ∷ k ∷ a ∷ b ∷ c ∷ d ∷ bytes) more none =
    either (eqb v 0x32 && eqb k 0x41) v k a b c d (from_be_bytes w32 (a ∷ b ∷ c ∷ d ∷ [])) bytes more (acknowledgements bytes) (acknowledgements (bytes ++ more)) (behind_stays bytes more) none
  where
    six : (n : ℕ) → 6 * suc n ≡ suc (suc (suc (suc (suc (suc (6 * n))))))
    six n = omega arith

    either : (test : Bool) (v k a b c d number : ℕ) (bytes more old new : List ℕ) → (BeginsNoAcknowledgement (drop (6 * length old) bytes) → BeginsNoAcknowledgement (drop (6 * length new) (bytes ++ more)))
        → BeginsNoAcknowledgement (drop (6 * length (cond test (number ∷ old) [])) (v ∷ k ∷ a ∷ b ∷ c ∷ d ∷ bytes)) → BeginsNoAcknowledgement (drop (6 * length (cond test (number ∷ new) [])) (v ∷ k ∷ a ∷ b ∷ c ∷ d ∷ (bytes ++ more)))
    either true v k a b c d number bytes more old new stays none =
        subst (λ (n : ℕ). BeginsNoAcknowledgement (drop n (v ∷ k ∷ a ∷ b ∷ c ∷ d ∷ (bytes ++ more)))) (sym (six (length new))) (stays (subst (λ (n : ℕ). BeginsNoAcknowledgement (drop n (v ∷ k ∷ a ∷ b ∷ c ∷ d ∷ bytes))) (six (length old)) none))
    either false v k a b c d number bytes more old new stays none = begins_none (v ∷ k ∷ a ∷ b ∷ c ∷ d ∷ bytes) more none

pub fault_stays : (talk more : List Piece) → HasPeerFault talk → HasPeerFault (talk ++ more)
fault_stays talk more fault =
    let windows = fault.windows in
    let on = goes_on talk more windows fault.sent in
    record {
      windows = windows ++ on.others;
      sent = on.sent;
      fault = elim (fault.fault) [
        | inl high ↦ inl (high.0, above_stays talk more windows on high.0 high.1)
        | inr none ↦ inr (subst (λ (bytes : List ℕ). BeginsNoAcknowledgement (drop (6 * length (acknowledgements bytes)) bytes)) (sym (in_append talk more)) (behind_stays (in_bytes talk) (in_bytes more) none))
      ];
    }
