-- The serving of one link, turn by turn.
use Rattle.std.proofs.Common.{◌≡◌, ◌⊎◌, inl, inr, ℕ, suc, ◌+◌, ◌-◌, ◌≤◌, List, [], ◌++◌, refl, sym, subst, arith}
use Rattle.outside.specs.Counts.{IsAtEnd, next_count}
use Rattle.wire_base.specs.declared.talk.Piece.{Piece}
use Rattle.lumber_frame.specs.Fault.{IsBadAt}
use Rattle.lumber_frame.specs.Reading.{IsShort}
use Rattle.lumber_frame.specs.Talk.{in_bytes, out_bytes}
use Rattle.lumber_frame.proofs.Frames.{within}
use Rattle.lumber_frame.proofs.Staying.{in_append, out_append}
use Rattle.lumber_answers.specs.Changes.{received_pieces}
use Rattle.lumber_answers.specs.HandingOn.{Told}
use Rattle.lumber_server.specs.Serving.{Serves, StopsAs, exchange_of}
use Rattle.lumber_server.specs.Standing.{Moves, StandsFor, State, exchange_then, nothing_exchanged, state_at_first}
use Rattle.lumber_server.specs.Turning.{EndsAs, IsSettled, TurnsOn}
use Rattle.lumber_server.specs.declared.served.Served.{Served}
use Rattle.lumber_server.specs.declared.served.Served.TheVariants.{NoMemory}
use Rattle.lumber_server.proofs.Moving.{keeps_same, moves_nowhere, moves_then, stands_keeps, stands_same}
use Rattle.lumber_answers.proofs.Sending.{received_append}
use Rattle.lumber_server.proofs.Taking.{used_some}
use Rattle.lumber_server.proofs.Turning.{whole_same}

nothing_stands : StandsFor state_at_first nothing_exchanged
nothing_stands = record {
  frames = [];
  front = record { each = tt; owed = tt; whole = refl };
  here = refl;
  lines = refl;
  answers = refl;
  confirmed = [];
  later = [];
  parts = refl;
  sent = refl;
  more = [];
  written = refl;
  passed = refl;
}

nothing_short : IsShort []
nothing_short = record {
  no_frame = λ frame used begins. absurd (omega (arith, used_some [] frame used begins, within [] frame used begins));
  no_fault = none;
}
  where
    none : (place : ℕ) → IsBadAt [] place → ⊥
    none place (inl h) = absurd (omega (arith, h.1.there))
    none place (inr (inl h)) = absurd (omega (arith, h.1.there))
    none place (inr (inr h)) = absurd (omega (arith, h.1.there))

-- what was served before a turn
pub record ServedSoFar (before now : Told) (s : State) (questions_before questions idles_before idles : ℕ) : Type 0 where
  pub pieces : List Piece
  pub bytes : List ℕ
  pub moves : Moves before now pieces bytes
  pub stands : StandsFor s (exchange_of pieces bytes)
  pub settled : IsSettled s
  pub rose : idles_before ≤ idles
  pub asked : ¬ (IsAtEnd idles) → questions ≤ questions_before + (received_pieces pieces + (idles - idles_before))

pub so_far_at_first : (a : Told) (s : State) (questions idles : ℕ) → s ≡ state_at_first → ServedSoFar a a s questions questions idles idles
so_far_at_first a s questions idles is =
    let P : State → Type 0 = λ s. StandsFor s nothing_exchanged in
    let Q : State → Type 0 = λ s. IsSettled s in
    record {
      pieces = [];
      bytes = [];
      moves = moves_nowhere a;
      stands = subst P (sym is) nothing_stands;
      settled = subst Q (sym is) (record { no_lines = refl; no_answers = refl; short = nothing_short });
      rose = omega arith;
      asked = λ _. omega arith;
    }

in_more : (p q : List Piece) → in_bytes p ++ in_bytes q ≡ in_bytes (p ++ q)
in_more p q = sym (in_append p q)

out_more : (p q : List Piece) → out_bytes p ++ out_bytes q ≡ out_bytes (p ++ q)
out_more p q = sym (out_append p q)

pub so_far_more : (a b c : Told) (s t : State) (questions_before questions asked idles_before idles more : ℕ) → ServedSoFar a b s questions_before questions idles_before idles → asked ≡ next_count questions →
    idles ≤ more → TurnsOn b c idles more s t → ServedSoFar a c t questions_before asked idles_before more
so_far_more a b c s t questions_before questions asked idles_before idles more so_far is rose turn = record {
  pieces = so_far.pieces ++ turn.pieces;
  bytes = so_far.bytes ++ turn.bytes;
  moves = moves_then a b c so_far.pieces turn.pieces so_far.bytes turn.bytes so_far.moves turn.moves;
  stands = stands_same t (exchange_then (exchange_of so_far.pieces so_far.bytes) turn.pieces turn.bytes) (exchange_of (so_far.pieces ++ turn.pieces) (so_far.bytes ++ turn.bytes))
      (in_more so_far.pieces turn.pieces) (out_more so_far.pieces turn.pieces) refl (turn.stands (exchange_of so_far.pieces so_far.bytes) so_far.stands);
  settled = turn.settled;
  rose = omega (arith, so_far.rose, rose);
  asked = λ not_end. count not_end turn.counted (so_far.asked (λ end. not_end (omega arith)));
}
  where
    count : (IsAtEnd more → ⊥) → IsAtEnd more ⊎ (suc idles ≤ received_pieces turn.pieces + more) → questions ≤ questions_before + (received_pieces so_far.pieces + (idles - idles_before)) →
        asked ≤ questions_before + (received_pieces (so_far.pieces ++ turn.pieces) + (more - idles_before))
    count not_end (inl end) before = absurd (not_end end)
    count not_end (inr less) before = omega (arith, received_append so_far.pieces turn.pieces, so_far.rose)

pub serves_so : (a b c : Told) (s : State) (served : Served) (questions_before questions asked idles_before idles more : ℕ) → ServedSoFar a b s questions_before questions idles_before idles →
    asked ≤ questions + 1 → idles ≤ more → EndsAs b c s served →
    Serves (record {
      talk_before = a.told;
      talk_after = c.told;
      written_before = a.written;
      written_after = c.written;
      questions_before = questions_before;
      questions_after = asked;
      idles_before = idles_before;
      idles_after = more;
    }) served
serves_so a b c s served questions_before questions asked idles_before idles more so_far is rose ends =
    let moves = moves_then a b c so_far.pieces ends.pieces so_far.bytes ends.bytes so_far.moves ends.moves in
    let e = exchange_of so_far.pieces so_far.bytes in
    let f = exchange_of (so_far.pieces ++ ends.pieces) (so_far.bytes ++ ends.bytes) in
    let P : List ℕ → Type 0 = λ l. StopsAs l served in
    record {
      pieces = so_far.pieces ++ ends.pieces;
      bytes = so_far.bytes ++ ends.bytes;
      talk = moves.talk;
      written = moves.written;
      keeps = keeps_same (exchange_then e ends.pieces ends.bytes) f (in_more so_far.pieces ends.pieces) (out_more so_far.pieces ends.pieces) refl (ends.keeps e so_far.stands);
      whole = whole_same served (exchange_then e ends.pieces ends.bytes) f (in_more so_far.pieces ends.pieces) (out_more so_far.pieces ends.pieces) refl (ends.whole e so_far.stands);
      stop = subst P (in_more so_far.pieces ends.pieces) (ends.stop e so_far.stands);
      questions = λ not_end. count (so_far.asked (λ end. not_end (omega arith)));
    }
  where
    count : questions ≤ questions_before + (received_pieces so_far.pieces + (idles - idles_before)) →
        asked ≤ questions_before + (received_pieces (so_far.pieces ++ ends.pieces) + (more - idles_before) + 1)
    count before = omega (arith, received_append so_far.pieces ends.pieces, so_far.rose)

-- nothing was done
pub serves_nothing : (a : Told) (questions idles : ℕ) →
    Serves (record {
      talk_before = a.told;
      talk_after = a.told;
      written_before = a.written;
      written_after = a.written;
      questions_before = questions;
      questions_after = questions;
      idles_before = idles;
      idles_after = idles;
    }) NoMemory
serves_nothing a questions idles =
    let moves = moves_nowhere a in
    record {
      pieces = [];
      bytes = [];
      talk = moves.talk;
      written = moves.written;
      keeps = stands_keeps state_at_first nothing_exchanged nothing_stands;
      whole = tt;
      stop = tt;
      questions = λ _. omega arith;
    }

pub asked_once : (questions asked : ℕ) → asked ≡ next_count questions → asked ≤ questions + 1
asked_once questions asked is = omega (arith, is)
