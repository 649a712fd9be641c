-- What is refused, and what is kept beside it: a row after an event that is not acknowledged, a row before one that is, one place for two
-- payloads, an image that is further than what was collected, and a folder that is not drained.
use Rattle.std.proofs.Common.{◌≡◌, ℕ, zero, suc, false, List, [], ◌∷◌, ◌++◌, length, Option, Some, None, refl, sym, ap, ◌∙◌, subst, arith, append-nil, codes, get_or, length-append}
use Rattle.std.specs.List.{AllByRecursion, slice_get}
use Rattle.lumber_frame.specs.declared.frame.Frame.TheVariants.{Ack}
use Rattle.lumber_frame.specs.Acknowledged.{Acknowledges, acknowledgements, answers, payloads_by}
use Rattle.lumber_frame.specs.Frame.{frame_bytes}
use Rattle.lumber_frame.specs.Talk.{in_bytes, out_bytes}
use Rattle.lumber_frame.specs.Window.{window_bytes}
use Rattle.lumber_frame.proofs.Settling.{none_in_nothing}
use Rattle.lumber_frame.proofs.WindowBytes.{are_once}
use Rattle.outside.specs.Talks.{Talk}
use Rattle.outside.specs.Wires.{Finished}
use Rattle.ship_core.proofs.Members.{first_there}
use Rattle.ship_core.specs.CoveredEnd.{last_end}
use Rattle.ship_core.specs.Rows.{find}
use Rattle.ship_core.specs.RowsOver.{row_for}
use Rattle.told_events.proofs.Worked.{a_log, event_of, first_line, payload, second_line}
use Rattle.wire_base.specs.declared.note.Cause.TheVariants.{Acked}
use Rattle.wire_base.specs.declared.note.Note.{Note}
use Rattle.wire_base.specs.declared.note.Note.TheVariants.{Begin, Settle}
use Rattle.wire_base.specs.declared.row.Row.{Row}
use Rattle.wire_base.specs.declared.talk.Piece.{Piece}
use Rattle.wire_base.specs.declared.talk.Piece.TheVariants.{In, Out}
use Rattle.kept_rows.specs.Account.{AccountedEvent, EpochAccount, Place, spans_of}
use Rattle.kept_rows.specs.Acknowledged.{IsAcknowledgedAt, talks_of}
use Rattle.kept_rows.specs.Backed.{AreRowsOverFronts}
use Rattle.kept_rows.specs.Kept.{ClosesSettled, IsSettled}
use Rattle.kept_rows.specs.Scans.{AreDistinct}
use Rattle.kept_rows.specs.Stored.{WaitsAt}
use Rattle.kept_rows.specs.Trace.{WireTold}
use Rattle.kept_rows.proofs.Worked.{epoch_account, key, payloads, row, window}

-- ---- only the first of two events is acknowledged

abbrev half_talk : Talk
half_talk = record { pieces = Out (window_bytes payloads) ∷ In (frame_bytes (Ack 1)) ∷ []; idled = false }

abbrev half_wires : List WireTold
half_wires = record { outcomes = Finished half_talk 0 0 ∷ []; open_talk = None } ∷ []

abbrev first_payload : List ℕ
first_payload = payload (codes "0") (codes "a")

abbrev second_payload : List ℕ
second_payload = payload (codes "2") (codes "b")

half_acknowledged : Acknowledges half_talk.pieces (first_payload ∷ [])
half_acknowledged = record { windows = payloads ∷ []; sent = record { each = (window, tt); rest = []; whole = sym (append-nil (window_bytes payloads ++ [])); cut = none_in_nothing }; are = refl }

-- the row after the first is kept
abbrev first_place : Place
first_place = record { wire = 0; connection = 0; number = 0 }

first_is_kept : ClosesSettled half_wires epoch_account 2
first_is_kept = record {
  front = record { event = event_of first_line first_payload; reading = 0; place = Some first_place } ∷ [];
  rest = record { event = event_of second_line second_payload; reading = 0; place = Some (record { wire = 0; connection = 0; number = 1 }) } ∷ [];
  told_is = refl;
  each = (record { wire = record { outcomes = Finished half_talk 0 0 ∷ []; open_talk = None }; wire_is = refl; talk = half_talk.pieces; talk_is = refl; acknowledged = first_payload ∷ []; acknowledges = half_acknowledged; stands = refl }, tt);
  ends = refl;
}

-- a talk acknowledges one list of payloads
one_reading : (talk : List Piece) (p q : List (List ℕ)) → Acknowledges talk p → Acknowledges talk q → p ≡ q
one_reading talk p q first second =
    let windows = are_once (out_bytes talk) first.windows second.windows first.sent second.sent in
    first.are ∙ ap (λ (ws : List (List (List ℕ))). payloads_by (answers ws talk [] 0 (acknowledgements (in_bytes talk))) 1 ws) windows ∙ sym second.are

-- so the second payload is at no place
payloads_differ : first_payload ≡ second_payload → ⊥
payloads_differ same =
    let byte : 48 ≡ 50 = ap (λ (p : List ℕ). get_or p 114 0) same in
    absurd (omega (arith, byte))

no_other : (number : ℕ) (text : List ℕ) → slice_get (first_payload ∷ []) number ≡ Some text → first_payload ≡ text
no_other zero text is = let q : Some first_payload ≡ Some text = is in cc
no_other (suc number) text is = absurd (let q : None ≡ Some text = is in cc)

second_is_nowhere : (place : Place) → IsAcknowledgedAt half_wires second_payload place → ⊥
second_is_nowhere place at = by_wire place.wire at.wire_is
  where
    by_talk : (wire : WireTold) → record { outcomes = Finished half_talk 0 0 ∷ []; open_talk = None } ≡ wire → (connection : ℕ) → slice_get (talks_of wire) connection ≡ Some (Some at.talk) → half_talk.pieces ≡ at.talk
    by_talk wire same connection is = by_number connection (ap (λ (w : WireTold). slice_get (talks_of w) connection) same ∙ is)
      where
        by_number : (connection : ℕ) → slice_get (Some half_talk.pieces ∷ []) connection ≡ Some (Some at.talk) → half_talk.pieces ≡ at.talk
        by_number zero is =
            let q : Some (Some half_talk.pieces) ≡ Some (Some at.talk) = is in
            let r : Some half_talk.pieces ≡ Some at.talk = cc in
            cc
        by_number (suc later) is = absurd (let q : None ≡ Some (Some at.talk) = is in cc)

    by_wire : (number : ℕ) → slice_get half_wires number ≡ Some at.wire → ⊥
    by_wire (suc later) is = absurd (let q : None ≡ Some at.wire = is in cc)
    by_wire zero is =
        let q : Some (record { outcomes = Finished half_talk 0 0 ∷ []; open_talk = None }) ≡ Some at.wire = is in
        let same : record { outcomes = Finished half_talk 0 0 ∷ []; open_talk = None } ≡ at.wire = cc in
        let talk = by_talk at.wire same place.connection at.talk_is in
        let list : first_payload ∷ [] ≡ at.acknowledged = one_reading at.talk (first_payload ∷ []) at.acknowledged (subst (λ (t : List Piece). Acknowledges t (first_payload ∷ [])) talk half_acknowledged) at.acknowledges in
        payloads_differ (no_other place.number second_payload (ap (λ (l : List (List ℕ)). slice_get l place.number) list ∙ at.stands))

-- so whatever places an account gives them, no row after both is kept
abbrev told_at : Option Place → Option Place → EpochAccount
told_at first second = record epoch_account {
  told = record { event = event_of first_line first_payload; reading = 0; place = first } ∷ record { event = event_of second_line second_payload; reading = 0; place = second } ∷ [];
}

second_settles_not : (place : Option Place) → IsSettled half_wires (record { event = event_of second_line second_payload; reading = 0; place = place }) → ⊥
second_settles_not None settled = settled
second_settles_not (Some place) settled = second_is_nowhere place settled

pub behind_both_is_refused : (first second : Option Place) → ClosesSettled half_wires (told_at first second) 4 → ⊥
behind_both_is_refused first second closes = go closes.front closes.rest closes.told_is closes.each closes.ends
  where
    go : (front rest : List AccountedEvent) → (told_at first second).told ≡ front ++ rest → AllByRecursion (IsSettled half_wires) front → last_end 0 (spans_of front) ≡ 4 → ⊥
    go [] rest is each ends = let n : 0 ≡ 4 = ends in absurd (omega (arith, n))
    go (x ∷ []) rest is each ends =
        let same : record { event = event_of first_line first_payload; reading = 0; place = first } ≡ x = cc in
        let n : 2 ≡ 4 = ap (λ (e : AccountedEvent). e.event.span.end) same ∙ ends in
        absurd (omega (arith, n))
    go (x ∷ y ∷ front) rest is each ends =
        let same : record { event = event_of second_line second_payload; reading = 0; place = second } ≡ y = cc in
        second_settles_not second (subst (IsSettled half_wires) (sym same) each.1.0)

-- ---- the row is stored as far as events are settled

-- at the end of the first, since the second is not
stored_behind_the_first : AllByRecursion (WaitsAt half_wires 2) epoch_account.told
stored_behind_the_first = ((λ begins settled. omega (arith, begins)), ((λ begins settled. second_settles_not (Some (record { wire = 0; connection = 0; number = 1 })) settled), tt))

-- but not where both begin: the first is settled
left_out_is_refused : AllByRecursion (WaitsAt half_wires 0) epoch_account.told → ⊥
unfolding first_is_kept
left_out_is_refused waits = waits.0 refl first_is_kept.each.0

-- ---- one acknowledged place for two payloads

one_place_for_two : AreDistinct (first_place ∷ first_place ∷ []) → ⊥
one_place_for_two distinct = distinct.0 (first_there first_place [])

-- ---- an image that is further than what was collected

abbrev notes : List Note
notes =
    Begin (record { 0 = 0 }) key a_log (record { 0 = 0 }) 0 (record { 0 = 0 })
    ∷ Settle (record { 0 = 0 }) (record { 0 = 0 }) first_line.span Acked
    ∷ []

abbrev offset_of : Option Row → ℕ
offset_of None = 0
offset_of (Some one) = one.offset

abbrev offset_over : List Note → ℕ
offset_over front = offset_of (row_for [] front key)

-- no first ones of the notes give the offset 4
no_front_gives_four : (front rest : List Note) → notes ≡ front ++ rest → offset_over front ≡ 4 → ⊥
no_front_gives_four [] rest is four = let n : 0 ≡ 4 = four in absurd (omega (arith, n))
no_front_gives_four (x ∷ []) rest is four =
    let same : Begin (record { 0 = 0 }) key a_log (record { 0 = 0 }) 0 (record { 0 = 0 }) ≡ x = cc in
    let n : 0 ≡ 4 = ap (λ (note : Note). offset_over (note ∷ [])) same ∙ four in
    absurd (omega (arith, n))
no_front_gives_four (x ∷ y ∷ []) rest is four =
    let first : Begin (record { 0 = 0 }) key a_log (record { 0 = 0 }) 0 (record { 0 = 0 }) ≡ x = cc in
    let second : Settle (record { 0 = 0 }) (record { 0 = 0 }) first_line.span Acked ≡ y = cc in
    let n : 2 ≡ 4 = ap (λ (note : Note). offset_over (note ∷ Settle (record { 0 = 0 }) (record { 0 = 0 }) first_line.span Acked ∷ [])) first
    ∙ ap (λ (note : Note). offset_over (x ∷ note ∷ [])) second ∙ four in
    absurd (omega (arith, n))
no_front_gives_four (x ∷ y ∷ z ∷ front) rest is four = absurd (omega (arith, ap (λ (l : List Note). length l) is, length-append front rest))

-- the row at 4 is over none of them, and the row at 2 is over both
pub further_than_collected_is_refused : AreRowsOverFronts [] notes (row ∷ []) → ⊥
further_than_collected_is_refused over =
    let front = over.each key in
    no_front_gives_four front.front front.rest front.notes_are (sym (ap offset_of front.is))

collected_is_there : find key (record row { offset = 2 } ∷ []) ≡ row_for [] notes key
collected_is_there = refl
