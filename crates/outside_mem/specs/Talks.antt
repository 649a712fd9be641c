-- What a peer in memory has for a buffer, after this many whole windows were sent to it and this many bytes were received
-- (this project's profile). Acknowledgements are those of Lumberjack v2, each of six bytes.
use Rattle.std.specs.Prelude.{◌≡◌, ◌⊎◌, ℕ, ◌+◌, ◌<◌, ◌≤◌, ◌/◌, ◌%◌, true, false, Bool, List, ◌∷◌, ◌++◌, length, take, drop, slice_index, sum_by}
use Rattle.lumber_frame.specs.declared.frame.Frame.TheVariants.{Ack}
use Rattle.lumber_frame.specs.Frame.{frame_bytes}
use Rattle.outside_mem.specs.declared.meet.MeetLink.{MeetLink}
use Rattle.outside_mem.specs.declared.meet.TheConstants.{MISSES}
use Rattle.outside_mem.specs.declared.talk.Answer.{Answer}
use Rattle.outside_mem.specs.declared.talk.Answer.TheVariants.{Bytes, Closed, NotYet, Failed}
use Rattle.outside_mem.specs.declared.talk.MemPiece.{MemPiece}
use Rattle.outside_mem.specs.declared.talk.MemTalk.{MemTalk}
use Rattle.outside_mem.specs.declared.talk.MemTalk.TheVariants.{All, Pieces, Meet}

-- bytes fit the buffer, and there is at least one
abbrev pub IsAnswer : ℕ → Answer → Type 0
IsAnswer room (Bytes count) = (0 < count) × (count ≤ room)
IsAnswer room Closed = Unit {0}
IsAnswer room NotYet = Unit {0}
IsAnswer room Failed = Unit {0}

-- the buffer begins with what is left of the next window's acknowledgement, or there is no such window
abbrev pub Acknowledges : List ℕ → ℕ → List ℕ → Answer → Type 0
Acknowledges whole received into (Bytes count) = (received / 6 < length whole) × (take count into ≡ take count (drop (received % 6) (frame_bytes (Ack (slice_index whole (received / 6))))))
Acknowledges whole received into Closed = ⊥
Acknowledges whole received into NotYet = length whole ≤ received / 6
Acknowledges whole received into Failed = ⊥

-- a peer that is to meet another acknowledges only windows, and fails only once ten calls went without the other
abbrev pub AnswersMet : MeetLink → List ℕ → ℕ → List ℕ → Answer → Type 0
AnswersMet peer whole received into (Bytes count) = Acknowledges whole received into (Bytes count)
AnswersMet peer whole received into Closed = ⊥
AnswersMet peer whole received into NotYet = Unit {0}
AnswersMet peer whole received into Failed = peer.misses ≡ MISSES

-- how many bytes the pieces have
abbrev pub size_of : List MemPiece → ℕ
size_of pieces = sum_by (λ piece. length piece.bytes) pieces

-- the piece of which this many bytes were received and not all, once those before it were
pub record IsNext (pieces : List MemPiece) (received : ℕ) (piece : MemPiece) (at : ℕ) : Type 0 where
  pub before : List MemPiece
  pub after : List MemPiece
  pub is : pieces ≡ before ++ piece ∷ after
  pub so_far : received ≡ size_of before + at
  pub left : at < length piece.bytes

-- the buffer begins with bytes of the next piece, which is due
pub record GivesNext (pieces : List MemPiece) (windows received count : ℕ) (into : List ℕ) : Type 0 where
  pub piece : MemPiece
  pub at : ℕ
  pub next : IsNext pieces received piece at
  pub due : piece.windows ≤ windows
  pub bytes : take count into ≡ take count (drop at piece.bytes)

-- the next piece is not due
pub record AwaitsNext (pieces : List MemPiece) (windows received : ℕ) : Type 0 where
  pub piece : MemPiece
  pub at : ℕ
  pub next : IsNext pieces received piece at
  pub not_due : windows < piece.windows

-- pieces come in their order, each once this many whole windows were sent, and then the end or nothing more
abbrev pub AnswersPieces : List MemPiece → Bool → ℕ → ℕ → List ℕ → Answer → Type 0
AnswersPieces pieces closes windows received into (Bytes count) = GivesNext pieces windows received count into
AnswersPieces pieces closes windows received into Closed = (size_of pieces ≤ received) × (closes ≡ true)
AnswersPieces pieces closes windows received into NotYet = AwaitsNext pieces windows received ⊎ ((size_of pieces ≤ received) × (closes ≡ false))
AnswersPieces pieces closes windows received into Failed = ⊥

abbrev pub Answers : MemTalk → List ℕ → ℕ → List ℕ → Answer → Type 0
Answers All whole received into answer = Acknowledges whole received into answer
Answers (Pieces pieces closes) whole received into answer = AnswersPieces pieces.items closes (length whole) received into answer
Answers (Meet peer) whole received into answer = AnswersMet peer whole received into answer
