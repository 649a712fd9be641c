-- The talk of a link, and of the link that was finished last.
use Rattle.std.proofs.Common.{◌≡◌, ℕ, zero, suc, Bool, List, [], ◌∷◌, ◌++◌, take, Some, refl, sym, ap, ◌∙◌}
use Rattle.wire_base.specs.declared.talk.Piece.{Piece}
use Rattle.wire_base.specs.declared.talk.Piece.TheVariants.{In}
use Rattle.outside.specs.declared.link.Recv.TheVariants.{Got}
use Rattle.outside.specs.Talks.{no_talk, with_received}
use Rattle.outside.specs.Wires.{Outcome, Refused, Finished}
use Rattle.outside_mem.specs.declared.link_history.LinkHistory.{LinkHistory}
use Rattle.outside_mem.specs.LinkHistories.{IsFresh, Receives, talk_of}
use Rattle.outside_mem.specs.Outcomes.{with_refused, last_talk}

pub last_talk-append : (pieces : List Piece) (outcomes more : List Outcome) →
    last_talk pieces (outcomes ++ more) ≡ last_talk (last_talk pieces outcomes) more
last_talk-append pieces [] more = refl
last_talk-append pieces (Refused ∷ outcomes) more = last_talk-append pieces outcomes more
last_talk-append pieces (Finished talk faults idles ∷ outcomes) more = last_talk-append talk.pieces outcomes more

pub last_talk-refused : (pieces : List Piece) (outcomes : List Outcome) (count : ℕ) →
    last_talk pieces (with_refused outcomes count) ≡ last_talk pieces outcomes
last_talk-refused pieces outcomes zero = refl
last_talk-refused pieces outcomes (suc count) =
    last_talk-append pieces (with_refused outcomes count) (Refused ∷ []) ∙ last_talk-refused pieces outcomes count

-- what is told after bytes were received
pub talk_received : (old new : LinkHistory) (bytes into : List ℕ) (count : ℕ) → Receives old bytes new → bytes ≡ take count into →
    Some (talk_of new) ≡ Some (with_received (talk_of old) into (Got count))
talk_received old new bytes into count received is =
    let pieces : new.pieces.items ≡ old.pieces.items ++ In (take count into) ∷ [] = received.pieces ∙ ap (λ (l : List ℕ). old.pieces.items ++ In l ∷ []) is in
    ap (λ (l : List Piece). Some (record { pieces = l; idled = new.idled })) pieces ∙ ap (λ (b : Bool). Some (record { pieces = old.pieces.items ++ In (take count into) ∷ []; idled = b })) received.idled

-- and before anything was done
pub talk_fresh : (history : LinkHistory) → IsFresh history → Some (talk_of history) ≡ Some no_talk
talk_fresh history fresh =
    ap (λ (l : List Piece). Some (record { pieces = l; idled = history.idled })) fresh.pieces ∙ ap (λ (b : Bool). Some (record { pieces = []; idled = b })) fresh.idled
