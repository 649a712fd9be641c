-- How a transfer goes on, and the exchange for which it stands.
use Rattle.std.proofs.Common.{◌≡◌, inl, inr, ℕ, ◌+◌, List, [], ◌∷◌, ◌++◌, length, take, drop, Option, refl, sym, ◌∙◌, ap, subst, append_assoc, arith}
use Rattle.std.proofs.Math.Seq.{take-append-add, take-append_seam, take-length}
use Rattle.std.proofs.lemmas.List.{append-nil, length-append}
use Rattle.std.proofs.lemmas.Grind.{flat_map-append}
use Rattle.std.specs.List.{AllByRecursion, flat_map}
use Rattle.wire_base.specs.declared.talk.Piece.{Piece}
use Rattle.outside.specs.Talks.{Talk}
use Rattle.lumber_frame.specs.Talk.{in_bytes, out_bytes}
use Rattle.lumber_frame.specs.declared.frame.Frame.{Frame}
use Rattle.lumber_frame.specs.Frame.{BeginsWithFrame, IsFrame, frame_bytes}
use Rattle.lumber_frame.proofs.Frames.{spelled}
use Rattle.lumber_frame.proofs.Staying.{in_append, out_append}
use Rattle.lumber_answers.specs.Changes.{Sends, SinkTakes}
use Rattle.lumber_answers.specs.HandingOn.{FailsToHandOn, FailsToSend, FailsToWrite, Told, telling}
use Rattle.lumber_answers.specs.Laying.{WritesFront}
use Rattle.lumber_server.specs.Promise.{Exchange, IsWhole, KeepsPromise}
use Rattle.lumber_server.specs.Received.{AreOwed, BeginsWithFrames, IsOwed, Standing, at_first, behind_frame, behind_frames}
use Rattle.lumber_server.specs.Ends.{up_to_end}
use Rattle.lumber_server.specs.Standing.{Fails, GoesOn, Moves, StandsFor, State, exchange_then, state_of}
use Rattle.lumber_server.specs.Taking.{BeginsWithNoneOwed, TakesFrame}
use Rattle.lumber_server.specs.Written.{answer_of, answers_from, answers_of, lines_of, lines_of_frame}
use Rattle.lumber_server.specs.declared.transfer.Transfer.{Transfer}
use Rattle.lumber_answers.proofs.Sending.{goes_nowhere, goes_then, received_append, takes_nothing, takes_then}

-- ---- frames behind frames

pub behind_append : (here : Standing) (a b : List Frame) → behind_frames here (a ++ b) ≡ behind_frames (behind_frames here a) b
behind_append here [] b = refl
behind_append here (frame ∷ a) b = behind_append (behind_frame here frame) a b

pub owed_append : (here : Standing) (a b : List Frame) → AreOwed here a → AreOwed (behind_frames here a) b → AreOwed here (a ++ b)
owed_append here [] b first second = second
owed_append here (frame ∷ a) b first second = (first.0, owed_append (behind_frame here frame) a b first.1 second)

pub each_append : (a b : List Frame) → AllByRecursion IsFrame a → AllByRecursion IsFrame b → AllByRecursion IsFrame (a ++ b)
each_append [] b first second = second
each_append (frame ∷ a) b first second = (first.0, each_append a b first.1 second)

pub answers_append : (here : Standing) (a b : List Frame) → answers_from here (a ++ b) ≡ answers_from here a ++ answers_from (behind_frames here a) b
answers_append here [] b = refl
answers_append here (frame ∷ a) b =
    ap (λ (l : List ℕ). answer_of here frame ++ l) (answers_append (behind_frame here frame) a b)
    ∙ sym (append_assoc (answer_of here frame) (answers_from (behind_frame here frame) a) (answers_from (behind_frames (behind_frame here frame) a) b))

pub lines_append : (a b : List Frame) → lines_of (a ++ b) ≡ lines_of a ++ lines_of b
lines_append a b = flat_map-append lines_of_frame a b

pub bytes_append : (a b : List Frame) → flat_map frame_bytes (a ++ b) ≡ flat_map frame_bytes a ++ flat_map frame_bytes b
bytes_append a b = flat_map-append frame_bytes a b

-- a front of a text that begins with another
pub front_behind : (a b all : List ℕ) (count : ℕ) → a ++ b ≡ all → a ++ take count b ≡ take (length a + count) all
front_behind a b all count whole = sym (take-append-add a b count) ∙ ap (λ (l : List ℕ). take (length a + count) l) whole

pub whole_front : (all : List ℕ) → all ≡ take (length all) all
whole_front all = sym (take-length all)

-- ---- one exchange under two names

pub stands_same : (s : State) (e f : Exchange) → e.received ≡ f.received → e.sent ≡ f.sent → e.written ≡ f.written → StandsFor s e → StandsFor s f
stands_same s e f received sent written stands = record {
  frames = stands.frames;
  front = record { each = stands.front.each; owed = stands.front.owed; whole = sym received ∙ stands.front.whole };
  here = stands.here;
  lines = ap (λ (l : List ℕ). l ++ s.lines) (sym written) ∙ stands.lines;
  answers = ap (λ (l : List ℕ). l ++ s.answers) (sym sent) ∙ stands.answers;
  confirmed = stands.confirmed;
  later = stands.later;
  parts = stands.parts;
  sent = sym sent ∙ stands.sent;
  more = stands.more;
  written = sym written ∙ stands.written;
  passed = stands.passed;
}

pub keeps_same : (e f : Exchange) → e.received ≡ f.received → e.sent ≡ f.sent → e.written ≡ f.written → KeepsPromise e → KeepsPromise f
keeps_same e f received sent written keeps = record {
  frames = keeps.frames;
  rest = keeps.rest;
  front = record { each = keeps.front.each; owed = keeps.front.owed; whole = sym received ∙ keeps.front.whole };
  written_count = keeps.written_count;
  written = sym written ∙ keeps.written;
  confirmed = keeps.confirmed;
  later = keeps.later;
  parts = keeps.parts;
  more = keeps.more;
  lines = sym written ∙ keeps.lines;
  sent_count = keeps.sent_count;
  sent = sym sent ∙ keeps.sent;
}

pub in_then : (e : Exchange) (p q : List Piece) → (e.received ++ in_bytes p) ++ in_bytes q ≡ e.received ++ in_bytes (p ++ q)
in_then e p q = append_assoc e.received (in_bytes p) (in_bytes q) ∙ ap (λ (l : List ℕ). e.received ++ l) (sym (in_append p q))

pub out_then : (e : Exchange) (p q : List Piece) → (e.sent ++ out_bytes p) ++ out_bytes q ≡ e.sent ++ out_bytes (p ++ q)
out_then e p q = append_assoc e.sent (out_bytes p) (out_bytes q) ∙ ap (λ (l : List ℕ). e.sent ++ l) (sym (out_append p q))

pub moves_then : (a b c : Told) (p q : List Piece) (x y : List ℕ) → Moves a b p x → Moves b c q y → Moves a c (p ++ q) (x ++ y)
moves_then a b c p q x y first second = record {
  talk = goes_then a.told b.told c.told p q first.talk second.talk;
  written = takes_then a.written b.written c.written x y first.written second.written;
}

pub moves_nowhere : (a : Told) → Moves a a [] []
moves_nowhere a = record { talk = goes_nowhere a.told; written = takes_nothing a.written }

-- ---- going on

pub stays : (a : Told) (s : State) → GoesOn a a s s
stays a s = record {
  pieces = [];
  bytes = [];
  moves = moves_nowhere a;
  none_received = refl;
  stands = λ e was. stands_same s e (exchange_then e [] []) (sym (append-nil e.received)) (sym (append-nil e.sent)) (sym (append-nil e.written)) was;
}

pub goes_further : (a b c : Told) (s t u : State) → GoesOn a b s t → GoesOn b c t u → GoesOn a c s u
goes_further a b c s t u first second = record {
  pieces = first.pieces ++ second.pieces;
  bytes = first.bytes ++ second.bytes;
  moves = moves_then a b c first.pieces second.pieces first.bytes second.bytes first.moves second.moves;
  none_received = omega (arith, received_append first.pieces second.pieces, first.none_received, second.none_received);
  stands = λ e was. stands_same u (exchange_then (exchange_then e first.pieces first.bytes) second.pieces second.bytes) (exchange_then e (first.pieces ++ second.pieces) (first.bytes ++ second.bytes))
      (in_then e first.pieces second.pieces) (out_then e first.pieces second.pieces) (append_assoc e.written first.bytes second.bytes)
      (second.stands (exchange_then e first.pieces first.bytes) (first.stands e was));
}

pub fails_further : (a b c : Told) (s t : State) → GoesOn a b s t → Fails b c t → Fails a c s
fails_further a b c s t first second = record {
  pieces = first.pieces ++ second.pieces;
  bytes = first.bytes ++ second.bytes;
  moves = moves_then a b c first.pieces second.pieces first.bytes second.bytes first.moves second.moves;
  none_received = omega (arith, received_append first.pieces second.pieces, first.none_received, second.none_received);
  keeps = λ e was. keeps_same (exchange_then (exchange_then e first.pieces first.bytes) second.pieces second.bytes) (exchange_then e (first.pieces ++ second.pieces) (first.bytes ++ second.bytes))
      (in_then e first.pieces second.pieces) (out_then e first.pieces second.pieces) (append_assoc e.written first.bytes second.bytes)
      (second.keeps (exchange_then e first.pieces first.bytes) (first.stands e was));
}

-- ---- handing on

pub hands_on : (a b : Told) (s : State) → SinkTakes a.written s.lines b.written → Sends a.told s.answers b.told →
    GoesOn a b s (record { unread = s.unread; here = s.here; lines = []; answers = []; passed = s.passed })
hands_on a b s written sent = record {
  pieces = sent.pieces;
  bytes = s.lines;
  moves = record { talk = sent.talk; written = written };
  none_received = sent.sending.no_received_piece;
  stands = λ e was. record {
    frames = was.frames;
    front = record { each = was.front.each; owed = was.front.owed; whole = ap (λ (l : List ℕ). e.received ++ l) sent.sending.none_received ∙ append-nil e.received ∙ was.front.whole };
    here = was.here;
    lines = append-nil (e.written ++ s.lines) ∙ was.lines;
    answers = append-nil (e.sent ++ out_bytes sent.pieces) ∙ ap (λ (l : List ℕ). e.sent ++ l) sent.sending.sent ∙ was.answers;
    confirmed = was.frames;
    later = [];
    parts = sym (append-nil was.frames);
    sent = ap (λ (l : List ℕ). e.sent ++ l) sent.sending.sent ∙ was.answers;
    more = [];
    written = was.lines ∙ sym (append-nil (lines_of was.frames));
    passed = was.passed;
  };
}

pub write_fails : (a b : Told) (s : State) → FailsToWrite s.lines a b → Fails a b s
write_fails a b s fails = record {
  pieces = fails.sent.pieces;
  bytes = take fails.written.count s.lines;
  moves = record { talk = fails.sent.talk; written = fails.written.takes };
  none_received = fails.sent.sending.no_received_piece;
  keeps = λ e was. record {
    frames = was.frames;
    rest = s.unread;
    front = record { each = was.front.each; owed = was.front.owed; whole = ap (λ (l : List ℕ). e.received ++ l) fails.sent.sending.none_received ∙ append-nil e.received ∙ was.front.whole };
    written_count = length e.written + fails.written.count;
    written = front_behind e.written s.lines (lines_of was.frames) fails.written.count was.lines;
    confirmed = was.confirmed;
    later = was.later;
    parts = was.parts;
    more = was.more ++ take fails.written.count s.lines;
    lines = ap (λ (l : List ℕ). l ++ take fails.written.count s.lines) was.written ∙ append_assoc (lines_of was.confirmed) was.more (take fails.written.count s.lines);
    sent_count = length (answers_of was.confirmed);
    sent = ap (λ (l : List ℕ). e.sent ++ l) fails.sent.sending.sent ∙ append-nil e.sent ∙ was.sent ∙ whole_front (answers_of was.confirmed);
  };
}

pub send_fails : (a b : Told) (s : State) → FailsToSend s.lines s.answers a b → Fails a b s
send_fails a b s fails = record {
  pieces = fails.sent.pieces;
  bytes = s.lines;
  moves = record { talk = fails.sent.talk; written = fails.written };
  none_received = fails.sent.sending.no_received_piece;
  keeps = λ e was. record {
    frames = was.frames;
    rest = s.unread;
    front = record { each = was.front.each; owed = was.front.owed; whole = ap (λ (l : List ℕ). e.received ++ l) fails.sent.sending.none_received ∙ append-nil e.received ∙ was.front.whole };
    written_count = length (lines_of was.frames);
    written = was.lines ∙ whole_front (lines_of was.frames);
    confirmed = was.frames;
    later = [];
    parts = sym (append-nil was.frames);
    more = [];
    lines = was.lines ∙ sym (append-nil (lines_of was.frames));
    sent_count = length e.sent + fails.count;
    sent = ap (λ (l : List ℕ). e.sent ++ l) fails.sent.sending.sent ∙ front_behind e.sent s.answers (answers_of was.frames) fails.count was.answers;
  };
}

pub hand_on_fails : (a b : Told) (transfer : Transfer) (unread : List ℕ) → FailsToHandOn transfer.outgoing a b → Fails a b (state_of transfer unread)
hand_on_fails a b transfer unread (inl fails) = write_fails a b (state_of transfer unread) fails
hand_on_fails a b transfer unread (inr fails) = send_fails a b (state_of transfer unread) fails

-- ---- one frame more

-- frames, and one more that is owed behind them
pub front_more : (received bytes : List ℕ) (frames : List Frame) (here : Standing) (frame : Frame) (used : ℕ) → BeginsWithFrames received frames bytes →
    here ≡ behind_frames at_first frames → BeginsWithFrame bytes frame used → IsOwed here frame → BeginsWithFrames (received ++ []) (frames ++ frame ∷ []) (drop used bytes)
front_more received bytes frames here frame used front is begins owed =
    let P : Standing → Type 0 = λ h. IsOwed h frame in
    record {
      each = each_append frames (frame ∷ []) front.each (begins.fits, tt);
      owed = owed_append at_first frames (frame ∷ []) front.owed (subst P is owed, tt);
      whole = append-nil received ∙ front.whole ∙ ap (λ (l : List ℕ). flat_map frame_bytes frames ++ l) (spelled bytes frame used begins)
          ∙ sym (append_assoc (flat_map frame_bytes frames) (frame_bytes frame) (drop used bytes))
          ∙ ap (λ (l : List ℕ). (flat_map frame_bytes frames ++ l) ++ drop used bytes) (sym (append-nil (frame_bytes frame)))
          ∙ ap (λ (l : List ℕ). l ++ drop used bytes) (sym (bytes_append frames (frame ∷ [])));
    }

pub lines_more : (frames : List Frame) (frame : Frame) → lines_of frames ++ lines_of_frame frame ≡ lines_of (frames ++ frame ∷ [])
lines_more frames frame = ap (λ (l : List ℕ). lines_of frames ++ l) (sym (append-nil (lines_of_frame frame))) ∙ sym (lines_append frames (frame ∷ []))

pub answers_more : (here : Standing) (frames : List Frame) (frame : Frame) → here ≡ behind_frames at_first frames → answers_of frames ++ answer_of here frame ≡ answers_of (frames ++ frame ∷ [])
answers_more here frames frame is =
    ap (λ (h : Standing). answers_of frames ++ answer_of h frame) is
    ∙ ap (λ (l : List ℕ). answers_of frames ++ l) (sym (append-nil (answer_of (behind_frames at_first frames) frame)))
    ∙ sym (answers_append at_first frames (frame ∷ []))

end_then : (a b c : ℕ) → a ≡ up_to_end b → c ≡ up_to_end (a + 0) → c ≡ up_to_end b
end_then a b c first second = omega (arith, first, second)

end_more : (passed frames used more after : ℕ) → passed ≡ up_to_end frames → after ≡ up_to_end (passed + used) → more ≡ frames + used → after ≡ up_to_end more
end_more passed frames used more after first second third = omega (arith, first, second, third)

length_more : (frames : List Frame) (frame : Frame) (used : ℕ) → used ≡ length (frame_bytes frame) → length (flat_map frame_bytes (frames ++ frame ∷ [])) ≡ length (flat_map frame_bytes frames) + used
length_more frames frame used is =
    ap (λ (l : List ℕ). length l) (bytes_append frames (frame ∷ []) ∙ ap (λ (l : List ℕ). flat_map frame_bytes frames ++ l) (append-nil (frame_bytes frame)))
    ∙ length-append (flat_map frame_bytes frames) (frame_bytes frame) ∙ ap (λ (n : ℕ). length (flat_map frame_bytes frames) + n) (sym is)

pub frame_taken : (told : Option Talk) (old new : Transfer) (written after : Option (List ℕ)) (bytes : List ℕ) (frame : Frame) (used : ℕ) →
    BeginsWithFrame bytes frame used → IsOwed old.reading frame → TakesFrame frame used old new written after →
    GoesOn (telling told written) (telling told after) (state_of old bytes) (state_of new (drop used bytes))
frame_taken told old new written after bytes frame used begins owed takes = record {
  pieces = [];
  bytes = takes.lines.bytes;
  moves = record { talk = goes_nowhere told; written = takes.lines.takes };
  none_received = refl;
  stands = λ e was. record {
    frames = was.frames ++ frame ∷ [];
    front = front_more e.received bytes was.frames old.reading frame used was.front was.here begins owed;
    here = takes.reading ∙ ap (λ (h : Standing). behind_frame h frame) was.here ∙ sym (behind_append at_first was.frames (frame ∷ []));
    lines = append_assoc e.written takes.lines.bytes new.outgoing.lines.items ∙ ap (λ (l : List ℕ). e.written ++ l) takes.lines.whole
        ∙ sym (append_assoc e.written old.outgoing.lines.items (lines_of_frame frame)) ∙ ap (λ (l : List ℕ). l ++ lines_of_frame frame) was.lines ∙ lines_more was.frames frame;
    answers = ap (λ (l : List ℕ). l ++ new.outgoing.answers.items) (append-nil e.sent) ∙ ap (λ (l : List ℕ). e.sent ++ l) takes.answers
        ∙ sym (append_assoc e.sent old.outgoing.answers.items (answer_of old.reading frame)) ∙ ap (λ (l : List ℕ). l ++ answer_of old.reading frame) was.answers
        ∙ answers_more old.reading was.frames frame was.here;
    confirmed = was.confirmed;
    later = was.later ++ frame ∷ [];
    parts = ap (λ (l : List Frame). l ++ frame ∷ []) was.parts ∙ append_assoc was.confirmed was.later (frame ∷ []);
    sent = append-nil e.sent ∙ was.sent;
    more = was.more ++ takes.lines.bytes;
    written = ap (λ (l : List ℕ). l ++ takes.lines.bytes) was.written ∙ append_assoc (lines_of was.confirmed) was.more takes.lines.bytes;
    passed = end_more old.passed (length (flat_map frame_bytes was.frames)) used _ new.passed was.passed takes.passed (length_more was.frames frame used begins.size);
  };
}

pub frame_fails : (told : Option Talk) (old : Transfer) (written after : Option (List ℕ)) (bytes : List ℕ) (frame : Frame) (used : ℕ) →
    BeginsWithFrame bytes frame used → IsOwed old.reading frame → WritesFront written (old.outgoing.lines.items ++ lines_of_frame frame) after →
    Fails (telling told written) (telling told after) (state_of old bytes)
frame_fails told old written after bytes frame used begins owed front = record {
  pieces = [];
  bytes = take front.count (old.outgoing.lines.items ++ lines_of_frame frame);
  moves = record { talk = goes_nowhere told; written = front.takes };
  none_received = refl;
  keeps = λ e was. record {
    frames = was.frames ++ frame ∷ [];
    rest = drop used bytes;
    front = front_more e.received bytes was.frames old.reading frame used was.front was.here begins owed;
    written_count = length e.written + front.count;
    written = front_behind e.written (old.outgoing.lines.items ++ lines_of_frame frame) (lines_of (was.frames ++ frame ∷ [])) front.count
        (sym (append_assoc e.written old.outgoing.lines.items (lines_of_frame frame)) ∙ ap (λ (l : List ℕ). l ++ lines_of_frame frame) was.lines ∙ lines_more was.frames frame);
    confirmed = was.confirmed;
    later = was.later ++ frame ∷ [];
    parts = ap (λ (l : List Frame). l ++ frame ∷ []) was.parts ∙ append_assoc was.confirmed was.later (frame ∷ []);
    more = was.more ++ take front.count (old.outgoing.lines.items ++ lines_of_frame frame);
    lines = ap (λ (l : List ℕ). l ++ take front.count (old.outgoing.lines.items ++ lines_of_frame frame)) was.written
        ∙ append_assoc (lines_of was.confirmed) was.more (take front.count (old.outgoing.lines.items ++ lines_of_frame frame));
    sent_count = length (answers_of was.confirmed);
    sent = append-nil e.sent ∙ was.sent ∙ whole_front (answers_of was.confirmed);
  };
}

-- ---- at an end

pub stands_keeps : (s : State) (e : Exchange) → StandsFor s e → KeepsPromise e
stands_keeps s e was = record {
  frames = was.frames;
  rest = s.unread;
  front = was.front;
  written_count = length e.written;
  written = sym (take-append_seam e.written s.lines) ∙ ap (λ (l : List ℕ). take (length e.written) l) was.lines;
  confirmed = was.confirmed;
  later = was.later;
  parts = was.parts;
  more = was.more;
  lines = was.written;
  sent_count = length (answers_of was.confirmed);
  sent = was.sent ∙ whole_front (answers_of was.confirmed);
}

pub stands_whole : (s : State) (e : Exchange) → s.lines ≡ [] → s.answers ≡ [] → BeginsWithNoneOwed s.here s.unread → StandsFor s e → IsWhole e
stands_whole s e no_lines no_answers none was =
    let P : Standing → Type 0 = λ h. (frame : Frame) (used : ℕ) → BeginsWithFrame s.unread frame used → IsOwed h frame → ⊥ in
    record {
      frames = was.frames;
      received = record { rest = s.unread; front = was.front; no_more = subst P was.here none.none };
      written = sym (append-nil e.written) ∙ ap (λ (l : List ℕ). e.written ++ l) (sym no_lines) ∙ was.lines;
      sent = sym (append-nil e.sent) ∙ ap (λ (l : List ℕ). e.sent ++ l) (sym no_answers) ∙ was.answers;
    }

-- what was laid is handed on, and nothing is laid
pub hands_on_as : (a b : Told) (s : State) (lines answers : List ℕ) → lines ≡ [] → answers ≡ [] → SinkTakes a.written s.lines b.written → Sends a.told s.answers b.told →
    GoesOn a b s (record { unread = s.unread; here = s.here; lines = lines; answers = answers; passed = s.passed })
hands_on_as a b s lines answers no_lines no_answers written sent =
    let P : List ℕ → Type 0 = λ l. GoesOn a b s (record { unread = s.unread; here = s.here; lines = l; answers = []; passed = s.passed }) in
    let Q : List ℕ → Type 0 = λ m. GoesOn a b s (record { unread = s.unread; here = s.here; lines = lines; answers = m; passed = s.passed }) in
    subst Q (sym no_answers) (subst P (sym no_lines) (hands_on a b s written sent))
