-- After a peer's fault nothing counts, whatever is sent and received afterwards.
use Rattle.std.proofs.Common.{◌≡◌, ℕ, suc, ◌+◌, ◌*◌, ◌<◌, ◌≤◌, ◌&&◌, Bool, true, false, cond, eqb, List, [], ◌∷◌, ◌++◌, length, take, drop, refl, sym, ap, subst, ◌∙◌, arith, inl, inr}
use Rattle.std.specs.Int.{w32, from_be_bytes}
use Rattle.std.proofs.lemmas.Bool.{cases_lt, eqb-true}
use Rattle.std.proofs.lemmas.Bool.Decides.{leb_tells}
use Rattle.std.proofs.lemmas.List.{length-append}
use Rattle.wire_base.specs.declared.talk.Piece.{Piece}
use Rattle.lumber_frame.specs.Talk.{in_bytes, out_bytes, out_before}
use Rattle.lumber_frame.specs.Window.{AreWindows}
use Rattle.lumber_frame.specs.Acknowledged.{Acknowledges, Answer, acknowledgements, answers, asked, count_at, greatest, payloads_by}
use Rattle.lumber_frame.specs.PeerFault.{BeginsNoAcknowledgement, HasPeerFault, IsAboveCount}
use Rattle.lumber_frame.proofs.Answering.{both, unless}
use Rattle.lumber_frame.proofs.Asking.{answers_few, answers_next}
use Rattle.lumber_frame.proofs.Faults.{few_each}
use Rattle.lumber_frame.proofs.Frames.{byte_stays}
use Rattle.lumber_frame.proofs.GoingOn.{GoesOn, goes_on}
use Rattle.lumber_frame.proofs.Staying.{answers_stay, in_append, numbers_fit, numbers_more}
use Rattle.lumber_frame.proofs.WindowBytes.{are_once}
use Rattle.lumber_client.proofs.Acknowledging.{none_more}
use Rattle.lumber_client.proofs.Given.{none_given}

-- ---- bytes that begin no acknowledgement

begins_none : (bytes more : List ℕ) → BeginsNoAcknowledgement bytes → BeginsNoAcknowledgement (bytes ++ more)
begins_none bytes more (inl first) =
    inl (record { there = omega (arith, length-append bytes more, first.there); version = λ e. first.version (sym (byte_stays bytes more 0 first.there) ∙ e) })
begins_none bytes more (inr second) =
    inr (omega (arith, length-append bytes more, second.0), λ e. second.1 (sym (byte_stays bytes more 1 second.0) ∙ e))

no_numbers : (bytes : List ℕ) → BeginsNoAcknowledgement bytes → acknowledgements bytes ≡ []
no_numbers [] none = refl
no_numbers (v ∷ []) none = refl
no_numbers (v ∷ k ∷ []) none = refl
no_numbers (v ∷ k ∷ a ∷ []) none = refl
no_numbers (v ∷ k ∷ a ∷ b ∷ []) none = refl
no_numbers (v ∷ k ∷ a ∷ b ∷ c ∷ []) none = refl
no_numbers (v ∷ k ∷ a ∷ b ∷ c ∷ d ∷ bytes) none =
    unless (eqb v 0x32 && eqb k 0x41) (from_be_bytes w32 (a ∷ b ∷ c ∷ d ∷ []) ∷ acknowledgements bytes) [] (λ is.
    let tests = both (eqb v 0x32) (eqb k 0x41) is in
    elim none [
      | inl first ↦ first.version (eqb-true v 0x32 tests.0)
      | inr second ↦ second.1 (eqb-true k 0x41 tests.1)
    ])

-- what is read of bytes, and then of bytes that begin none
at_front : (bytes more : List ℕ) → acknowledgements bytes ≡ [] → BeginsNoAcknowledgement bytes → acknowledgements (bytes ++ more) ≡ acknowledgements bytes
at_front bytes more read none = no_numbers (bytes ++ more) (begins_none bytes more none) ∙ sym read

same_numbers : (bytes more : List ℕ) → BeginsNoAcknowledgement (drop (6 * length (acknowledgements bytes)) bytes) → acknowledgements (bytes ++ more) ≡ acknowledgements bytes
same_numbers [] more none = at_front [] more refl none
same_numbers (v ∷ []) more none = at_front (v ∷ []) more refl none
same_numbers (v ∷ k ∷ []) more none = at_front (v ∷ k ∷ []) more refl none
same_numbers (v ∷ k ∷ a ∷ []) more none = at_front (v ∷ k ∷ a ∷ []) more refl none
same_numbers (v ∷ k ∷ a ∷ b ∷ []) more none = at_front (v ∷ k ∷ a ∷ b ∷ []) more refl none
same_numbers (v ∷ k ∷ a ∷ b ∷ c ∷ []) more none = at_front (v ∷ k ∷ a ∷ b ∷ c ∷ []) more refl none
same_numbers (v ∷ k ∷ a ∷ b ∷ c ∷ d ∷ bytes) more none =
    either (eqb v 0x32 && eqb k 0x41) v k a b c d (from_be_bytes w32 (a ∷ b ∷ c ∷ d ∷ [])) bytes (acknowledgements bytes) (acknowledgements (bytes ++ more)) (same_numbers bytes more) none
  where
    six : (n : ℕ) → 6 * suc n ≡ suc (suc (suc (suc (suc (suc (6 * n))))))
    six n = omega arith

    either : (test : Bool) (v k a b c d number : ℕ) (bytes old new : List ℕ) → (BeginsNoAcknowledgement (drop (6 * length old) bytes) → new ≡ old) → BeginsNoAcknowledgement (drop (6 * length (cond test (number ∷ old) [])) (v ∷ k ∷ a ∷ b ∷ c ∷ d ∷ bytes)) → cond test (number ∷ new) [] ≡ cond test (number ∷ old) []
    either true v k a b c d number bytes old new same none =
        ap (λ (ns : List ℕ). number ∷ ns) (same (subst (λ (n : ℕ). BeginsNoAcknowledgement (drop n (v ∷ k ∷ a ∷ b ∷ c ∷ d ∷ bytes))) (six (length old)) none))
    either false v k a b c d number bytes old new same none = refl

-- ---- a number above the count

-- if an acknowledgement has no answer, none after it has
stopped : (windows : List (List (List ℕ))) (talk : List Piece) (given : List Answer) (place : ℕ) (numbers more : List ℕ) → length (answers windows talk given place numbers) < length given + length numbers → answers windows talk given place (numbers ++ more) ≡ answers windows talk given place numbers
stopped windows talk given place [] more less = absurd (omega (arith, less))
stopped windows talk given place (number ∷ numbers) more less =
    let window = asked windows given (out_before talk place) in
    let answer : Answer = record { window = window; number = number } in
    elim (leb_tells number (count_at windows window)) [
      | inl is ↦ rw (is.0) (stopped windows talk (given ++ answer ∷ []) (place + 6) numbers more (omega (arith, less, ap length (answers_next windows talk given place number numbers is.1), length-append given (answer ∷ []))))
      | inr is ↦ rw (is.0) refl
    ]

-- if a number is above the count, some acknowledgement has no answer
some_unanswered : (windows : List (List (List ℕ))) (talk : List Piece) (index : ℕ) → IsAboveCount windows talk index → length (answers windows talk [] 0 (acknowledgements (in_bytes talk))) < length (acknowledgements (in_bytes talk))
some_unanswered windows talk index high =
    let numbers = acknowledgements (in_bytes talk) in
    let few = answers_few windows talk [] 0 numbers in
    elim (cases_lt (length (answers windows talk [] 0 numbers)) (length numbers)) [
      | inl less ↦ less
      | inr many ↦
          let each = few_each windows talk [] 0 numbers index (omega (arith, many, few)) high.there in
          let place : 0 + 6 * index ≡ 6 * index = omega arith in
          absurd (omega (arith, each, high.above, ap (λ (p : ℕ). count_at windows (asked windows (answers windows talk [] 0 (take index numbers)) (out_before talk p))) place))
    ]

-- ---- the talk that goes on

-- the answers are the same
same_answers : (talk more : List Piece) (windows : List (List (List ℕ))) (sent : AreWindows (out_bytes talk) windows) → HasPeerFault talk → (on : GoesOn talk more windows) → answers (windows ++ on.others) (talk ++ more) [] 0 (acknowledgements (in_bytes (talk ++ more))) ≡ answers windows talk [] 0 (acknowledgements (in_bytes talk))
same_answers talk more windows sent fault on =
    let all = windows ++ on.others in
    let numbers = acknowledgements (in_bytes talk) in
    let same = are_once (out_bytes talk) fault.windows windows fault.sent sent in
    let stay = answers_stay windows on.others talk more [] 0 numbers on.within (omega (arith, numbers_fit (in_bytes talk))) in
    let received = ap acknowledgements (in_append talk more) in
    elim (fault.fault) [
      | inl high ↦
          let behind = numbers_more (in_bytes talk) (in_bytes more) in
          let less = some_unanswered windows talk high.0 (subst (λ (ws : List (List (List ℕ))). IsAboveCount ws talk high.0) same high.1) in
          ap (λ (ns : List ℕ). answers all (talk ++ more) [] 0 ns) (received ∙ behind.1) ∙ stopped all (talk ++ more) [] 0 numbers behind.0 (omega (arith, less, ap length stay)) ∙ stay
      | inr none ↦
          ap (λ (ns : List ℕ). answers all (talk ++ more) [] 0 ns) (received ∙ same_numbers (in_bytes talk) (in_bytes more) none) ∙ stay
    ]

-- and so are the acknowledged payloads
pub nothing_behind : (talk more : List Piece) (payloads : List (List ℕ)) → HasPeerFault talk → Acknowledges talk payloads → Acknowledges (talk ++ more) payloads
nothing_behind talk more payloads fault first =
    let windows = first.windows in
    let on = goes_on talk more windows first.sent in
    let numbers = acknowledgements (in_bytes talk) in
    let given = answers windows talk [] 0 numbers in
    let same = same_answers talk more windows first.sent fault on in
    let none : (window : ℕ) → 1 + length windows ≤ window → greatest window given ≡ 0 = λ window past. none_given windows talk [] 0 numbers window (omega (arith, past)) refl in
    record {
      windows = windows ++ on.others;
      sent = on.sent;
      are = first.are ∙ sym (none_more given 1 windows on.others none) ∙ ap (λ (all : List Answer). payloads_by all 1 (windows ++ on.others)) (sym same);
    }
