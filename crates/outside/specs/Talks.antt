-- The talk of a link: what was sent and received, piece by piece, in order (Lumberjack v2 over TCP; this project's
-- profile).
use Rattle.std.specs.Prelude.{◌≡◌, ℕ, ◌<◌, ◌≤◌, Bool, true, false, List, [], ◌∷◌, ◌++◌, take, Option, Some, None, Result, MatchResult}
use Rattle.outside.specs.declared.failed.Failed.{Failed}
use Rattle.outside.specs.declared.link.Recv.{Recv}
use Rattle.outside.specs.declared.link.Recv.TheVariants.{Got, Closed, NotYet, Failed as RecvFailed}
use Rattle.wire_base.specs.declared.talk.Piece.{Piece}
use Rattle.wire_base.specs.declared.talk.Piece.TheVariants.{Out, In}

-- the pieces in order, and whether the link was idle after the last piece that was sent
pub record Talk : Type 0 where
  pub pieces : List Piece
  pub idled : Bool

abbrev pub no_talk : Talk
no_talk = record { pieces = []; idled = false }

-- the talk after these bytes were sent
abbrev pub with_sent : Talk → List ℕ → Talk
with_sent talk [] = talk
with_sent talk (byte ∷ bytes) = record { pieces = talk.pieces ++ Out (byte ∷ bytes) ∷ []; idled = false }

-- a sending that fails adds nothing to the talk
abbrev pub TellsSending : Option Talk → List ℕ → Result ℕ Failed → Option Talk → Type 0
TellsSending None piece result after = after ≡ None
TellsSending (Some talk) piece result after =
    MatchResult result (λ count. after ≡ Some (with_sent talk (take count piece))) (λ _. after ≡ Some talk)

-- the talk after a receiving
abbrev pub with_received : Talk → List ℕ → Recv → Talk
with_received talk into (Got count) = record talk { pieces = talk.pieces ++ In (take count into) ∷ [] }
with_received talk into NotYet = record talk { idled = true }
with_received talk into Closed = talk
with_received talk into RecvFailed = talk

abbrev pub TellsReceiving : Option Talk → List ℕ → Recv → Option Talk → Type 0
TellsReceiving None into result after = after ≡ None
TellsReceiving (Some talk) into result after = after ≡ Some (with_received talk into result)

-- what came fits the buffer, and is at least one byte
abbrev pub IsWithin : ℕ → Recv → Type 0
IsWithin room (Got count) = (0 < count) × (count ≤ room)
IsWithin room Closed = Unit {0}
IsWithin room NotYet = Unit {0}
IsWithin room RecvFailed = Unit {0}

-- the connection was found closed or failed
abbrev pub Ended : Recv → Type 0
Ended (Got count) = ⊥
Ended Closed = Unit {0}
Ended NotYet = ⊥
Ended RecvFailed = Unit {0}

abbrev pub IsNotYet : Recv → Type 0
IsNotYet (Got count) = ⊥
IsNotYet Closed = ⊥
IsNotYet NotYet = Unit {0}
IsNotYet RecvFailed = ⊥
