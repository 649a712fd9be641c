-- Talks of the same bytes, however those that were received are cut into pieces.
use Rattle.std.proofs.Common.{◌≡◌, ℕ, suc, ◌+◌, ◌*◌, ◌-◌, Bool, true, false, cond, leb, List, [], ◌∷◌, ◌++◌, length, slice_index, take, drop, refl, sym, ap, subst, ◌∙◌, append_assoc, arith, inl, inr}
use Rattle.wire_base.specs.declared.talk.Piece.{Piece}
use Rattle.wire_base.specs.declared.talk.Piece.TheVariants.{Out, In}
use Rattle.lumber_frame.specs.Talk.{in_bytes, out_bytes, out_before}
use Rattle.lumber_frame.specs.Window.{AreWindows}
use Rattle.lumber_frame.specs.Acknowledged.{Acknowledges, Answer, acknowledgements, answers, asked, count_at, greatest, payloads_by}
use Rattle.lumber_frame.specs.PeerFault.{BeginsNoAcknowledgement, HasPeerFault, IsAboveCount}
use Rattle.lumber_frame.proofs.Staying.{in_append, out_append}
use Rattle.lumber_client.specs.Exchange.{Exchange, given_in, parcels_by, windows_of, with_talk}
use Rattle.lumber_client.specs.Held.{Held}
use Rattle.lumber_client.specs.Standing.{HearsWith, StandsFor, window_asked}
use Rattle.lumber_client.proofs.Answered.{answered_same}

record AreAlike (a b : List Piece) : Type 0 where
  out : out_bytes b ≡ out_bytes a
  received : in_bytes b ≡ in_bytes a
  before : (place : ℕ) → out_before b place ≡ out_before a place

-- ---- pieces that were received one after another

nothing_before : (first second both : Bool) (none : ℕ) → cond both none none ≡ cond first none (cond second none none)
nothing_before true second true none = refl
nothing_before true second false none = refl
nothing_before false true true none = refl
nothing_before false true false none = refl
nothing_before false false true none = refl
nothing_before false false false none = refl

joined_before : (talk : List Piece) (a b : List ℕ) (place : ℕ) → out_before (talk ++ In (a ++ b) ∷ []) place ≡ out_before (talk ++ In a ∷ In b ∷ []) place
joined_before [] a b place = nothing_before (leb (suc place) (length a)) (leb (suc (place - length a)) (length b)) (leb (suc place) (length (a ++ b))) 0
joined_before (Out bytes ∷ talk) a b place = ap (λ (n : ℕ). length bytes + n) (joined_before talk a b place)
joined_before (In bytes ∷ talk) a b place = ap (λ (n : ℕ). cond (leb (suc place) (length bytes)) 0 n) (joined_before talk a b (place - length bytes))

joined_alike : (talk : List Piece) (a b : List ℕ) → AreAlike (talk ++ In a ∷ In b ∷ []) (talk ++ In (a ++ b) ∷ [])
joined_alike talk a b = record {
  out = out_append talk (In (a ++ b) ∷ []) ∙ sym (out_append talk (In a ∷ In b ∷ []));
  received = in_append talk (In (a ++ b) ∷ []) ∙ ap (λ (tail : List ℕ). in_bytes talk ++ tail) (append_assoc a b []) ∙ sym (in_append talk (In a ∷ In b ∷ []));
  before = joined_before talk a b;
}

-- ---- what is read of alike talks

alike_answers : (windows : List (List (List ℕ))) (a b : List Piece) → AreAlike a b → (given : List Answer) (place : ℕ) (numbers : List ℕ) → answers windows b given place numbers ≡ answers windows a given place numbers
alike_answers windows a b alike given place [] = refl
alike_answers windows a b alike given place (number ∷ numbers) =
    let here = asked windows given (out_before a place) in
    let more = given ++ record { window = here; number = number } ∷ [] in
    let later = alike_answers windows a b alike more (place + 6) numbers in
    rw (alike.before place, later) refl

alike_given : (e : Exchange) (a b : List Piece) → AreAlike a b → given_in (with_talk e b) ≡ given_in (with_talk e a)
alike_given e a b alike =
    ap (λ (bytes : List ℕ). answers (windows_of e.begun) b [] 0 (acknowledgements bytes)) alike.received
    ∙ alike_answers (windows_of e.begun) a b alike [] 0 (acknowledgements (in_bytes a))

alike_fault : (a b : List Piece) → AreAlike a b → HasPeerFault a → HasPeerFault b
alike_fault a b alike f =
    let windows = f.windows in
    let same = alike.received in
    record {
      windows = windows;
      sent = subst (λ (bytes : List ℕ). AreWindows bytes windows) (sym alike.out) f.sent;
      fault = elim (f.fault) [
        | inl high ↦ inl (high.0, above windows high.0 high.1)
        | inr none ↦ inr (subst (λ (bytes : List ℕ). BeginsNoAcknowledgement (drop (6 * length (acknowledgements bytes)) bytes)) (sym same) none)
      ];
    }
  where
    above : (windows : List (List (List ℕ))) (index : ℕ) → IsAboveCount windows a index → IsAboveCount windows b index
    above windows index high =
        let numbers = acknowledgements (in_bytes a) in
        let read : acknowledgements (in_bytes b) ≡ numbers = ap acknowledgements alike.received in
        let given : answers windows b [] 0 (take index (acknowledgements (in_bytes b))) ≡ answers windows a [] 0 (take index numbers) = ap (λ (ns : List ℕ). answers windows b [] 0 (take index ns)) read ∙ alike_answers windows a b alike [] 0 (take index numbers) in
        let asks = ap (λ (all : List Answer). asked windows all (out_before b (6 * index))) given ∙ ap (asked windows (answers windows a [] 0 (take index numbers))) (alike.before (6 * index)) in
        record {
          there = omega (arith, high.there, ap length read);
          earlier = ap length given ∙ high.earlier;
          above = omega (arith, high.above, ap (count_at windows) asks, ap (λ (ns : List ℕ). slice_index ns index) read);
        }

alike_heard : (failed : Bool) (e : Exchange) (a b : List Piece) (frame : List ℕ) (window : ℕ) → AreAlike a b → HearsWith failed (with_talk e a) frame window → HearsWith failed (with_talk e b) frame window
alike_heard true e a b frame window alike f = alike_fault a b alike f
alike_heard false e a b frame window alike h =
    let windows = windows_of e.begun in
    let same = alike_answers windows a b alike [] 0 h.numbers in
    record {
      numbers = h.numbers;
      small = h.small;
      received = alike.received ∙ h.received;
      faultless = ap length same ∙ h.faultless;
      short = h.short;
      begins = h.begins;
      asks = λ some. ap (λ (all : List Answer). asked windows all (out_before b (6 * length h.numbers))) same ∙ ap (asked windows (answers windows a [] 0 h.numbers)) (alike.before (6 * length h.numbers)) ∙ h.asks some;
    }

alike_stands : (w : Held) (e : Exchange) (a b : List Piece) → AreAlike a b → StandsFor w (with_talk e a) → StandsFor w (with_talk e b)
alike_stands w e a b alike s =
    let same = alike_given e a b alike in
    record {
      each = s.each;
      sent = ap (λ (front : List ℕ). front ++ (w.out ++ w.behind)) alike.out ∙ s.sent;
      nothing_behind = s.nothing_behind;
      full = s.full;
      answered = answered_same e.begun (given_in (with_talk e a)) (given_in (with_talk e b)) s.full w.flights w.done w.last (λ window. ap (greatest window) same) s.answered;
      few = s.few;
      heard = alike_heard w.hearing.failed e a b w.hearing.frame (window_asked w.hearing.asks_oldest s.full) alike s.heard;
      flies = s.flies;
      given = omega (arith, s.given, ap length alike.received);
      within = s.within;
      held = s.held;
      acknowledged = s.acknowledged ∙ ap (λ (given : List Answer). e.earlier ++ parcels_by given 1 e.begun) (sym same);
    }

-- a window stands for the talk with both pieces as one
pub pieces_join : (w : Held) (e : Exchange) (talk : List Piece) (front back : List ℕ) → StandsFor w (with_talk e (talk ++ In front ∷ In back ∷ [])) → StandsFor w (with_talk e (talk ++ In (front ++ back) ∷ []))
pieces_join w e talk front back s = alike_stands w e (talk ++ In front ∷ In back ∷ []) (talk ++ In (front ++ back) ∷ []) (joined_alike talk front back) s

alike_acknowledges : (a b : List Piece) (payloads : List (List ℕ)) → AreAlike a b → Acknowledges a payloads → Acknowledges b payloads
alike_acknowledges a b payloads alike r =
    let windows = r.windows in
    let given : answers windows b [] 0 (acknowledgements (in_bytes b)) ≡ answers windows a [] 0 (acknowledgements (in_bytes a)) =
    ap (λ (bytes : List ℕ). answers windows b [] 0 (acknowledgements bytes)) alike.received ∙ alike_answers windows a b alike [] 0 (acknowledgements (in_bytes a)) in
    record {
      windows = windows;
      sent = subst (λ (bytes : List ℕ). AreWindows bytes windows) (sym alike.out) r.sent;
      are = r.are ∙ ap (λ (all : List Answer). payloads_by all 1 windows) (sym given);
    }

-- and the talk with both pieces as one acknowledges the same, and has the same faults
pub joined_acknowledges : (talk : List Piece) (front back : List ℕ) (payloads : List (List ℕ)) → Acknowledges (talk ++ In front ∷ In back ∷ []) payloads → Acknowledges (talk ++ In (front ++ back) ∷ []) payloads
joined_acknowledges talk front back payloads r = alike_acknowledges (talk ++ In front ∷ In back ∷ []) (talk ++ In (front ++ back) ∷ []) payloads (joined_alike talk front back) r

pub joined_fault : (talk : List Piece) (front back : List ℕ) → HasPeerFault (talk ++ In front ∷ In back ∷ []) → HasPeerFault (talk ++ In (front ++ back) ∷ [])
joined_fault talk front back f = alike_fault (talk ++ In front ∷ In back ∷ []) (talk ++ In (front ++ back) ∷ []) (joined_alike talk front back) f
