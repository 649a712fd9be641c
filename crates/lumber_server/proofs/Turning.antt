-- One turn of a serving.
use Rattle.std.proofs.Common.{◌≡◌, ◌⊎◌, inl, inr, ℕ, suc, ◌+◌, ◌-◌, ◌≤◌, List, [], ◌∷◌, ◌++◌, length, drop, Option, Some, None, sym, ◌∙◌, ap, subst, append_assoc, arith}
use Rattle.std.proofs.lemmas.List.{append-nil}
use Rattle.outside.specs.Counts.{IsAtEnd, Rose}
use Rattle.outside.specs.Talks.{Talk}
use Rattle.wire_base.specs.declared.talk.Piece.TheVariants.{In}
use Rattle.lumber_frame.specs.Reading.{IsShort}
use Rattle.lumber_answers.specs.Changes.{SinkTakes, TalkGoesOn, received_pieces}
use Rattle.lumber_answers.specs.HandingOn.{Told}
use Rattle.lumber_server.specs.Promise.{Exchange, IsWhole}
use Rattle.lumber_server.specs.Received.{StopsAt}
use Rattle.lumber_server.specs.Receiving.{IsPieceHeard}
use Rattle.lumber_server.specs.Serving.{IsWholeAt, StopsAs}
use Rattle.lumber_server.specs.Standing.{Fails, GoesOn, Moves, StandsFor, State, exchange_then, state_of}
use Rattle.lumber_server.specs.Taking.{LeavesShort, StopsBehind}
use Rattle.lumber_server.specs.Turning.{EndsAs, HandsOver, IsHandedOver, IsSettled, IsTurned, TurnsOn, session_state}
use Rattle.lumber_server.specs.declared.served.Served.{Served}
use Rattle.lumber_server.specs.declared.served.Served.TheVariants.{Ended, SendFault, OutFault, Bad, Stopped, NoMemory}
use Rattle.lumber_server.specs.declared.session.Session.{Session}
use Rattle.lumber_server.specs.declared.transfer.Transfer.{Transfer}
use Rattle.lumber_server.proofs.Moving.{in_then, keeps_same, moves_then, out_then, stands_keeps, stands_same, stands_whole}
use Rattle.lumber_answers.proofs.Sending.{goes_nowhere, takes_nothing}
use Rattle.lumber_server.proofs.Stopping.{no_stop, stops_at}
use Rattle.lumber_server.proofs.Taking.{none_at_short, none_at_stop}

-- ---- the bytes that came

-- bytes that came stand behind those that were there
pub stands_with : (s : State) (e : Exchange) (piece : List ℕ) → StandsFor s e →
    StandsFor (record { unread = s.unread ++ piece; here = s.here; lines = s.lines; answers = s.answers; passed = s.passed }) (exchange_then e (In piece ∷ []) [])
stands_with s e piece was = record {
  frames = was.frames;
  front = record {
    each = was.front.each;
    owed = was.front.owed;
    whole = ap (λ (l : List ℕ). e.received ++ l) (append-nil piece) ∙ ap (λ (l : List ℕ). l ++ piece) was.front.whole ∙ append_assoc _ s.unread piece;
  };
  here = was.here;
  lines = ap (λ (l : List ℕ). l ++ s.lines) (append-nil e.written) ∙ was.lines;
  answers = ap (λ (l : List ℕ). l ++ s.answers) (append-nil e.sent) ∙ was.answers;
  confirmed = was.confirmed;
  later = was.later;
  parts = was.parts;
  sent = append-nil e.sent ∙ was.sent;
  more = was.more;
  written = append-nil e.written ∙ was.written;
  passed = was.passed;
}

-- ---- what becomes of an end

failed_whole : (served : Served) (e : Exchange) → (served ≡ SendFault) ⊎ ((served ≡ OutFault) ⊎ (served ≡ NoMemory)) → IsWholeAt served e
failed_whole served e (inl is) = let P : Served → Type 0 = λ s. IsWholeAt s e in subst P (sym is) tt
failed_whole served e (inr (inl is)) = let P : Served → Type 0 = λ s. IsWholeAt s e in subst P (sym is) tt
failed_whole served e (inr (inr is)) = let P : Served → Type 0 = λ s. IsWholeAt s e in subst P (sym is) tt

failed_stop : (served : Served) (received : List ℕ) → (served ≡ SendFault) ⊎ ((served ≡ OutFault) ⊎ (served ≡ NoMemory)) → StopsAs received served
failed_stop served received (inl is) = let P : Served → Type 0 = λ s. StopsAs received s in subst P (sym is) tt
failed_stop served received (inr (inl is)) = let P : Served → Type 0 = λ s. StopsAs received s in subst P (sym is) tt
failed_stop served received (inr (inr is)) = let P : Served → Type 0 = λ s. StopsAs received s in subst P (sym is) tt

-- a fault of the link or the sink, or out of memory
pub fails_end : (a b : Told) (s : State) (served : Served) → (served ≡ SendFault) ⊎ ((served ≡ OutFault) ⊎ (served ≡ NoMemory)) → Fails a b s → EndsAs a b s served
fails_end a b s served is fails = record {
  pieces = fails.pieces;
  bytes = fails.bytes;
  moves = fails.moves;
  keeps = fails.keeps;
  whole = λ e was. failed_whole served (exchange_then e fails.pieces fails.bytes) is;
  stop = λ e was. failed_stop served (exchange_then e fails.pieces fails.bytes).received is;
}

-- reading stopped behind the frames that were handed on
pub stop_end : (a b : Told) (old new : Transfer) (unread : List ℕ) (place : ℕ) → StopsBehind a b old new unread place → EndsAs a b (state_of old unread) (Bad place)
stop_end a b old new unread place stops =
    let rest = drop (length unread - stops.left) unread in
    let goes = stops.handed.taken.goes_on in
    record {
      pieces = goes.pieces;
      bytes = goes.bytes;
      moves = goes.moves;
      keeps = λ e was. stands_keeps (state_of new rest) (exchange_then e goes.pieces goes.bytes) (goes.stands e was);
      whole = λ e was. stands_whole (state_of new rest) (exchange_then e goes.pieces goes.bytes) stops.handed.no_lines stops.handed.no_answers
          (none_at_stop new.reading rest stops.within stops.stop) (goes.stands e was);
      stop = λ e was. stops_at (state_of new rest) (exchange_then e goes.pieces goes.bytes) stops.within place (goes.stands e was) stops.stop stops.place_is;
    }

-- nothing more came, and the session is settled
pub settled_end : (a b : Told) (s : State) (served : Served) → (served ≡ Ended) ⊎ (served ≡ Stopped) → IsSettled s → Moves a b [] [] → EndsAs a b s served
settled_end a b s served is settled moves = record {
  pieces = [];
  bytes = [];
  moves = moves;
  keeps = λ e was. stands_keeps s (exchange_then e [] []) (same e was);
  whole = λ e was. whole_of served is (exchange_then e [] []) (stands_whole s (exchange_then e [] []) settled.no_lines settled.no_answers (none_at_short s.here s.unread settled.short) (same e was));
  stop = λ e was. stop_of served is (exchange_then e [] []).received (no_stop s (exchange_then e [] []) (same e was) settled.short);
}
  where
    same : (e : Exchange) → StandsFor s e → StandsFor s (exchange_then e [] [])
    same e was = stands_same s e (exchange_then e [] []) (sym (append-nil e.received)) (sym (append-nil e.sent)) (sym (append-nil e.written)) was

    whole_of : (served : Served) → (served ≡ Ended) ⊎ (served ≡ Stopped) → (e : Exchange) → IsWhole e → IsWholeAt served e
    whole_of served (inl is) e whole = let P : Served → Type 0 = λ s. IsWholeAt s e in subst P (sym is) whole
    whole_of served (inr is) e whole = let P : Served → Type 0 = λ s. IsWholeAt s e in subst P (sym is) whole

    stop_of : (served : Served) → (served ≡ Ended) ⊎ (served ≡ Stopped) → (received : List ℕ) → ((place : ℕ) → StopsAt received place → ⊥) → StopsAs received served
    stop_of served (inl is) received none = let P : Served → Type 0 = λ s. StopsAs received s in subst P (sym is) none
    stop_of served (inr is) received none = let P : Served → Type 0 = λ s. StopsAs received s in subst P (sym is) none

-- out of memory before anything came
pub nothing_end : (a b : Told) (s : State) → Moves a b [] [] → EndsAs a b s NoMemory
nothing_end a b s moves = record {
  pieces = [];
  bytes = [];
  moves = moves;
  keeps = λ e was. stands_keeps s (exchange_then e [] []) (stands_same s e (exchange_then e [] []) (sym (append-nil e.received)) (sym (append-nil e.sent)) (sym (append-nil e.written)) was);
  whole = λ e was. tt;
  stop = λ e was. tt;
}

-- ---- behind a receiving

heard_state : (session : Session) (unread : List ℕ) (transfer : Transfer) (piece : List ℕ) → unread ≡ session.incoming ++ piece → transfer ≡ session.transfer →
    (e : Exchange) → StandsFor (session_state session) e → StandsFor (state_of transfer unread) (exchange_then e (In piece ∷ []) [])
heard_state session unread transfer piece behind same e was =
    let P : List ℕ → Type 0 = λ l. StandsFor (state_of session.transfer l) (exchange_then e (In piece ∷ []) []) in
    let Q : Transfer → Type 0 = λ t. StandsFor (state_of t unread) (exchange_then e (In piece ∷ []) []) in
    subst Q (sym same) (subst P (sym behind) (stands_with (session_state session) e piece was))

heard_moves : (a b : Told) (unread more piece : List ℕ) → (heard : IsPieceHeard a.told unread more b.told) → b.written ≡ a.written → Moves a b (In heard.piece ∷ []) []
heard_moves a b unread more piece heard same =
    let P : Option (List ℕ) → Type 0 = λ o. SinkTakes a.written [] o in
    record { talk = heard.talk_is; written = subst P (sym same) (takes_nothing a.written) }

-- what is whole of an exchange is whole of it under another name
pub is_whole_same : (e f : Exchange) → e.received ≡ f.received → e.sent ≡ f.sent → e.written ≡ f.written → IsWhole e → IsWhole f
is_whole_same e f received sent written whole = record {
  frames = whole.frames;
  received = record {
    rest = whole.received.rest;
    front = record { each = whole.received.front.each; owed = whole.received.front.owed; whole = sym received ∙ whole.received.front.whole };
    no_more = whole.received.no_more;
  };
  written = sym written ∙ whole.written;
  sent = sym sent ∙ whole.sent;
}

pub whole_same : (served : Served) (e f : Exchange) → e.received ≡ f.received → e.sent ≡ f.sent → e.written ≡ f.written → IsWholeAt served e → IsWholeAt served f
whole_same Ended e f received sent written whole = is_whole_same e f received sent written whole
whole_same SendFault e f received sent written whole = tt
whole_same OutFault e f received sent written whole = tt
whole_same (Bad place) e f received sent written whole = is_whole_same e f received sent written whole
whole_same Stopped e f received sent written whole = is_whole_same e f received sent written whole
whole_same NoMemory e f received sent written whole = tt

pub end_behind : (a b c : Told) (old mid : Session) (served : Served) → (heard : IsPieceHeard a.told old.incoming mid.incoming b.told) → b.written ≡ a.written → mid.transfer ≡ old.transfer →
    EndsAs b c (session_state mid) served → EndsAs a c (session_state old) served
end_behind a b c old mid served heard same_sink same ends =
    let first = heard_moves a b old.incoming mid.incoming [] heard same_sink in
    let stands = heard_state old mid.incoming mid.transfer heard.piece heard.behind same in
    let P : Exchange → Type 0 = λ e. IsWholeAt served e in
    record {
      pieces = In heard.piece ∷ ends.pieces;
      bytes = ends.bytes;
      moves = moves_then a b c (In heard.piece ∷ []) ends.pieces [] ends.bytes first ends.moves;
      keeps = λ e was. keeps_same (exchange_then (exchange_then e (In heard.piece ∷ []) []) ends.pieces ends.bytes) (exchange_then e (In heard.piece ∷ ends.pieces) ends.bytes)
          (in_then e (In heard.piece ∷ []) ends.pieces) (out_then e (In heard.piece ∷ []) ends.pieces) (ap (λ (l : List ℕ). l ++ ends.bytes) (append-nil e.written))
          (ends.keeps (exchange_then e (In heard.piece ∷ []) []) (stands e was));
      whole = λ e was. whole_same served (exchange_then (exchange_then e (In heard.piece ∷ []) []) ends.pieces ends.bytes) (exchange_then e (In heard.piece ∷ ends.pieces) ends.bytes)
          (in_then e (In heard.piece ∷ []) ends.pieces) (out_then e (In heard.piece ∷ []) ends.pieces) (ap (λ (l : List ℕ). l ++ ends.bytes) (append-nil e.written))
          (ends.whole (exchange_then e (In heard.piece ∷ []) []) (stands e was));
      stop = λ e was. let Q : List ℕ → Type 0 = λ l. StopsAs l served in
          subst Q (in_then e (In heard.piece ∷ []) ends.pieces) (ends.stop (exchange_then e (In heard.piece ∷ []) []) (stands e was));
    }

pub turn_behind : (a b c : Told) (idles idles_after : ℕ) (old mid new : Session) → (heard : IsPieceHeard a.told old.incoming mid.incoming b.told) → b.written ≡ a.written → mid.transfer ≡ old.transfer →
    idles ≤ idles_after → HandsOver b c (session_state mid) (session_state new) → TurnsOn a c idles idles_after (session_state old) (session_state new)
turn_behind a b c idles idles_after old mid new heard same_sink same rose hands =
    let first = heard_moves a b old.incoming mid.incoming [] heard same_sink in
    let stands = heard_state old mid.incoming mid.transfer heard.piece heard.behind same in
    let goes = hands.goes_on in
    record {
      pieces = In heard.piece ∷ goes.pieces;
      bytes = goes.bytes;
      moves = moves_then a b c (In heard.piece ∷ []) goes.pieces [] goes.bytes first goes.moves;
      stands = λ e was. stands_same (session_state new) (exchange_then (exchange_then e (In heard.piece ∷ []) []) goes.pieces goes.bytes) (exchange_then e (In heard.piece ∷ goes.pieces) goes.bytes)
          (in_then e (In heard.piece ∷ []) goes.pieces) (out_then e (In heard.piece ∷ []) goes.pieces) (ap (λ (l : List ℕ). l ++ goes.bytes) (append-nil e.written))
          (goes.stands (exchange_then e (In heard.piece ∷ []) []) (stands e was));
      settled = hands.settled;
      counted = inr (omega (arith, goes.none_received, rose));
    }

pub turned_behind : (a b c : Told) (idles idles_after : ℕ) (old mid new : Session) (result : Option Served) → (heard : IsPieceHeard a.told old.incoming mid.incoming b.told) → b.written ≡ a.written →
    mid.transfer ≡ old.transfer → idles ≤ idles_after → IsHandedOver b c mid new result → IsTurned a c idles idles_after old new result
turned_behind a b c idles idles_after old mid new None heard same_sink same rose handed = turn_behind a b c idles idles_after old mid new heard same_sink same rose handed
turned_behind a b c idles idles_after old mid new (Some served) heard same_sink same rose handed = end_behind a b c old mid served heard same_sink same handed

-- nothing has come yet
pub turn_idle : (a b : Told) (idles idles_after : ℕ) (old new : Session) → Moves a b [] [] → new.incoming ≡ old.incoming → new.transfer ≡ old.transfer → Rose idles idles_after → IsSettled (session_state old) →
    TurnsOn a b idles idles_after (session_state old) (session_state new)
turn_idle a b idles idles_after old new moves same_bytes same rose settled =
    let P : List ℕ → Type 0 = λ l. IsSettled (state_of old.transfer l) in
    let Q : Transfer → Type 0 = λ t. IsSettled (state_of t new.incoming) in
    record {
      pieces = [];
      bytes = [];
      moves = moves;
      stands = λ e was.
          let R : List ℕ → Type 0 = λ l. StandsFor (state_of old.transfer l) (exchange_then e [] []) in
          let T : Transfer → Type 0 = λ t. StandsFor (state_of t new.incoming) (exchange_then e [] []) in
          subst T (sym same) (subst R (sym same_bytes) (stands_same (session_state old) e (exchange_then e [] []) (sym (append-nil e.received)) (sym (append-nil e.sent)) (sym (append-nil e.written)) was));
      settled = subst Q (sym same) (subst P (sym same_bytes) settled);
      counted = count rose;
    }
  where
    count : Rose idles idles_after → IsAtEnd idles_after ⊎ (suc idles ≤ received_pieces [] + idles_after)
    count (inl less) = inr (omega arith)
    count (inr end) = inl end

-- the frames in front are handed on, and the rest waits
pub hands_over : (a b : Told) (old new : Session) (unread : List ℕ) (left : ℕ) → LeavesShort a b old.transfer new.transfer unread left → old.incoming ≡ unread → new.incoming ≡ drop (length unread - left) unread →
    HandsOver a b (session_state old) (session_state new)
hands_over a b old new unread left leaves was is =
    let P : List ℕ → Type 0 = λ l. GoesOn a b (state_of old.transfer unread) (state_of new.transfer l) in
    let Q : List ℕ → Type 0 = λ l. GoesOn a b (state_of old.transfer l) (session_state new) in
    let R : List ℕ → Type 0 = λ l. IsShort l in
    record {
      goes_on = subst Q (sym was) (subst P (sym is) leaves.handed.taken.goes_on);
      settled = record { no_lines = leaves.handed.no_lines; no_answers = leaves.handed.no_answers; short = subst R (sym is) leaves.short };
    }

pub same_moves : (a b : Told) → (told : TalkGoesOn a.told [] b.told) → b.written ≡ a.written → Moves a b [] []
same_moves a b talk same =
    let P : Option (List ℕ) → Type 0 = λ o. SinkTakes a.written [] o in
    record { talk = talk; written = subst P (sym same) (takes_nothing a.written) }

pub unmoved : (a b : Told) → b.told ≡ a.told → b.written ≡ a.written → Moves a b [] []
unmoved a b same_talk same =
    let P : Option Talk → Type 0 = λ o. TalkGoesOn a.told [] o in
    same_moves a b (subst P (sym same_talk) (goes_nowhere a.told)) same

pub ends_same : (a b : Told) (transfer : Transfer) (unread bytes : List ℕ) (served : Served) → bytes ≡ unread → EndsAs a b (state_of transfer bytes) served → EndsAs a b (state_of transfer unread) served
ends_same a b transfer unread bytes served same ends =
    let P : List ℕ → Type 0 = λ l. EndsAs a b (state_of transfer l) served in
    subst P same ends
