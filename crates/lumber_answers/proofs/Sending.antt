-- Bytes that are written or sent piece by piece.
use Rattle.std.proofs.Common.{◌≡◌, ℕ, ◌+◌, ◌≤◌, false, List, [], ◌∷◌, ◌++◌, length, take, drop, Option, Some, None, Ok, Err, refl, sym, ◌∙◌, ap, subst, append_assoc, arith}
use Rattle.std.proofs.Math.Seq.{take-add}
use Rattle.std.proofs.lemmas.List.{drop-drop, length-drop, take_all}
use Rattle.outside.specs.declared.failed.Failed.{Failed}
use Rattle.outside.specs.Streams.{WritesOn}
use Rattle.outside.specs.Talks.{Talk, TellsSending, with_sent}
use Rattle.wire_base.specs.declared.talk.Piece.{Piece}
use Rattle.wire_base.specs.declared.talk.Piece.TheVariants.{Out, In}
use Rattle.lumber_frame.specs.Talk.{in_bytes, out_bytes}
use Rattle.lumber_frame.proofs.Staying.{in_append, out_append}
use Rattle.lumber_answers.specs.Changes.{IsSending, Sends, SinkTakes, TalkGoesOn, received_pieces}

pub takes_nothing : (written : Option (List ℕ)) → SinkTakes written [] written
takes_nothing None = refl
takes_nothing (Some written) = ap (λ (l : List ℕ). Some l) (sym (append-nil written))
  where
    append-nil : (l : List ℕ) → l ++ [] ≡ l
    append-nil [] = refl
    append-nil (x ∷ xs) = ap (λ (l : List ℕ). x ∷ l) (append-nil xs)

pub takes_then : (old mid new : Option (List ℕ)) (a b : List ℕ) → SinkTakes old a mid → SinkTakes mid b new → SinkTakes old (a ++ b) new
takes_then None mid new a b first second =
    let P : Option (List ℕ) → Type 0 = λ o. SinkTakes o b new in
    subst P first second
takes_then (Some written) mid new a b first second =
    let P : Option (List ℕ) → Type 0 = λ o. SinkTakes o b new in
    subst P first second ∙ ap (λ (l : List ℕ). Some l) (append_assoc written a b)

-- one write that succeeded
pub takes_front : (old new : Option (List ℕ)) (piece : List ℕ) (count : ℕ) → WritesOn old piece (Ok count) new → SinkTakes old (take count piece) new
takes_front None new piece count writes = writes
takes_front (Some written) new piece count writes = writes

-- one write that failed
pub takes_none : (old new : Option (List ℕ)) (piece : List ℕ) (failed : Failed) → WritesOn old piece (Err failed) new → new ≡ old
takes_none None new piece failed writes = writes
takes_none (Some written) new piece failed writes = writes

pub goes_nowhere : (talk : Option Talk) → TalkGoesOn talk [] talk
goes_nowhere None = refl
goes_nowhere (Some talk) = (talk.idled, ap (λ (l : List Piece). Some (record { pieces = l; idled = talk.idled })) (sym (append-nil talk.pieces)))
  where
    append-nil : (l : List Piece) → l ++ [] ≡ l
    append-nil [] = refl
    append-nil (x ∷ xs) = ap (λ (l : List Piece). x ∷ l) (append-nil xs)

pub goes_then : (old mid new : Option Talk) (a b : List Piece) → TalkGoesOn old a mid → TalkGoesOn mid b new → TalkGoesOn old (a ++ b) new
goes_then None mid new a b first second =
    let P : Option Talk → Type 0 = λ o. TalkGoesOn o b new in
    subst P first second
goes_then (Some talk) mid new a b first second =
    let P : Option Talk → Type 0 = λ o. TalkGoesOn o b new in
    let last = subst P first.1 second in
    (last.0, last.1 ∙ ap (λ (l : List Piece). Some (record { pieces = l; idled = last.0 })) (append_assoc talk.pieces a b))

pub received_append : (a b : List Piece) → received_pieces (a ++ b) ≡ received_pieces a + received_pieces b
received_append [] b = omega arith
received_append (Out bytes ∷ a) b = received_append a b
received_append (In bytes ∷ a) b = omega (arith, received_append a b)

pub sends_nothing : IsSending [] []
sends_nothing = record { sent = refl; none_received = refl; no_received_piece = refl }

pub sends_then : (p q : List Piece) (a b : List ℕ) → IsSending p a → IsSending q b → IsSending (p ++ q) (a ++ b)
sends_then p q a b first second = record {
  sent = out_append p q ∙ ap (λ (l : List ℕ). l ++ out_bytes q) first.sent ∙ ap (λ (l : List ℕ). a ++ l) second.sent;
  none_received = in_append p q ∙ ap (λ (l : List ℕ). l ++ in_bytes q) first.none_received ∙ second.none_received;
  no_received_piece = omega (arith, received_append p q, first.no_received_piece, second.no_received_piece);
}

pub none_sent : (talk : Option Talk) → Sends talk [] talk
none_sent talk = record { pieces = []; sending = sends_nothing; talk = goes_nowhere talk }

pub sent_then : (old mid new : Option Talk) (a b : List ℕ) → Sends old a mid → Sends mid b new → Sends old (a ++ b) new
sent_then old mid new a b first second = record {
  pieces = first.pieces ++ second.pieces;
  sending = sends_then first.pieces second.pieces a b first.sending second.sending;
  talk = goes_then old mid new first.pieces second.pieces first.talk second.talk;
}

append_nothing : (l : List ℕ) → l ++ [] ≡ l
append_nothing [] = refl
append_nothing (x ∷ xs) = ap (λ (l : List ℕ). x ∷ l) (append_nothing xs)

sent_of : (talk : Talk) (bytes : List ℕ) → Sends (Some talk) bytes (Some (with_sent talk bytes))
sent_of talk [] = none_sent (Some talk)
sent_of talk (byte ∷ bytes) = record {
  pieces = Out (byte ∷ bytes) ∷ [];
  sending = record { sent = append_nothing (byte ∷ bytes); none_received = refl; no_received_piece = refl };
  talk = (false, refl);
}

-- one sending that succeeded
pub sent_front : (old new : Option Talk) (piece : List ℕ) (count : ℕ) → TellsSending old piece (Ok count) new → Sends old (take count piece) new
sent_front None new piece count sends = record {
  pieces = Out (take count piece) ∷ [];
  sending = record { sent = append_nothing (take count piece); none_received = refl; no_received_piece = refl };
  talk = sends;
}
sent_front (Some talk) new piece count sends =
    let P : Option Talk → Type 0 = λ o. Sends (Some talk) (take count piece) o in
    subst P (sym sends) (sent_of talk (take count piece))

-- one sending that failed
pub sent_none : (old new : Option Talk) (piece : List ℕ) (failed : Failed) → TellsSending old piece (Err failed) new → new ≡ old
sent_none None new piece failed sends = sends
sent_none (Some talk) new piece failed sends = sends

-- of the bytes a front was written, and this is left
pub record IsPartWritten (old : Option (List ℕ)) (bytes left : List ℕ) (now : Option (List ℕ)) : Type 0 where
  pub count : ℕ
  pub left_is : left ≡ drop count bytes
  pub takes : SinkTakes old (take count bytes) now

pub none_written : (old : Option (List ℕ)) (bytes : List ℕ) → IsPartWritten old bytes bytes old
none_written old bytes = record { count = 0; left_is = refl; takes = takes_nothing old }

pub part_written : (old now after : Option (List ℕ)) (bytes left : List ℕ) (count most : ℕ) → length left ≤ count + most → IsPartWritten old bytes left now
    → WritesOn now left (Ok count) after → IsPartWritten old bytes (take most (drop count left)) after
part_written old now after bytes left count most all was writes =
    let whole : take count left ≡ take count (drop was.count bytes) = ap (λ (l : List ℕ). take count l) was.left_is in
    let P : List ℕ → Type 0 = λ l. SinkTakes old l after in
    record {
      count = was.count + count;
      left_is = take_all most (drop count left) (omega (arith, length-drop count left)) ∙ ap (λ (l : List ℕ). drop count l) was.left_is ∙ drop-drop count was.count bytes;
      takes = subst P (ap (λ (l : List ℕ). take was.count bytes ++ l) whole ∙ sym (take-add was.count count bytes))
          (takes_then old now after (take was.count bytes) (take count left) was.takes (takes_front now after left count writes));
    }

-- nothing is left, so all was taken
pub all_taken : (bytes left : List ℕ) (count : ℕ) → left ≡ [] → left ≡ drop count bytes → take count bytes ≡ bytes
all_taken bytes left count none is =
    take_all count bytes (omega (arith, ap (λ (l : List ℕ). length l) (sym none ∙ is), length-drop count bytes))

pub all_written : (old now : Option (List ℕ)) (bytes left : List ℕ) → left ≡ [] → IsPartWritten old bytes left now → SinkTakes old bytes now
all_written old now bytes left none was =
    let P : List ℕ → Type 0 = λ l. SinkTakes old l now in
    subst P (all_taken bytes left was.count none was.left_is) was.takes

pub rest_unwritten : (old now after : Option (List ℕ)) (bytes left : List ℕ) (failed : Failed) → IsPartWritten old bytes left now → WritesOn now left (Err failed) after
    → (count : ℕ) × SinkTakes old (take count bytes) after
rest_unwritten old now after bytes left failed was writes =
    let P : Option (List ℕ) → Type 0 = λ o. SinkTakes old (take was.count bytes) o in
    (was.count, subst P (sym (takes_none now after left failed writes)) was.takes)

-- of the bytes a front was sent, and this is left
pub record IsPartSent (old : Option Talk) (bytes left : List ℕ) (now : Option Talk) : Type 0 where
  pub count : ℕ
  pub left_is : left ≡ drop count bytes
  pub sends : Sends old (take count bytes) now

pub none_sent_yet : (old : Option Talk) (bytes : List ℕ) → IsPartSent old bytes bytes old
none_sent_yet old bytes = record { count = 0; left_is = refl; sends = none_sent old }

pub part_sent : (old now after : Option Talk) (bytes left : List ℕ) (count most : ℕ) → length left ≤ count + most → IsPartSent old bytes left now
    → TellsSending now left (Ok count) after → IsPartSent old bytes (take most (drop count left)) after
part_sent old now after bytes left count most all was sends =
    let whole : take count left ≡ take count (drop was.count bytes) = ap (λ (l : List ℕ). take count l) was.left_is in
    let P : List ℕ → Type 0 = λ l. Sends old l after in
    record {
      count = was.count + count;
      left_is = take_all most (drop count left) (omega (arith, length-drop count left)) ∙ ap (λ (l : List ℕ). drop count l) was.left_is ∙ drop-drop count was.count bytes;
      sends = subst P (ap (λ (l : List ℕ). take was.count bytes ++ l) whole ∙ sym (take-add was.count count bytes))
          (sent_then old now after (take was.count bytes) (take count left) was.sends (sent_front now after left count sends));
    }

pub all_sent : (old now : Option Talk) (bytes left : List ℕ) → left ≡ [] → IsPartSent old bytes left now → Sends old bytes now
all_sent old now bytes left none was =
    let P : List ℕ → Type 0 = λ l. Sends old l now in
    subst P (all_taken bytes left was.count none was.left_is) was.sends

pub rest_unsent : (old now after : Option Talk) (bytes left : List ℕ) (failed : Failed) → IsPartSent old bytes left now → TellsSending now left (Err failed) after
    → (count : ℕ) × Sends old (take count bytes) after
rest_unsent old now after bytes left failed was sends =
    let P : Option Talk → Type 0 = λ o. Sends old (take was.count bytes) o in
    (was.count, subst P (sym (sent_none now after left failed sends)) was.sends)
