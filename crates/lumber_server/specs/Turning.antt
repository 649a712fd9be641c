-- One turn of a serving: one receiving, and what is made of the bytes that came (Lumberjack v2; this project's profile).
use Rattle.std.specs.Prelude.{◌≡◌, ◌⊎◌, ℕ, ◌+◌, ◌≤◌, suc, List, [], Option, Some, None}
use Rattle.outside.specs.Counts.{IsAtEnd}
use Rattle.wire_base.specs.declared.talk.Piece.{Piece}
use Rattle.lumber_frame.specs.Reading.{IsShort}
use Rattle.lumber_answers.specs.Changes.{received_pieces}
use Rattle.lumber_answers.specs.HandingOn.{Told}
use Rattle.lumber_server.specs.Promise.{Exchange, KeepsPromise}
use Rattle.lumber_server.specs.Serving.{IsWholeAt, StopsAs}
use Rattle.lumber_server.specs.Standing.{GoesOn, Moves, StandsFor, State, exchange_then, state_of}
use Rattle.lumber_server.specs.declared.served.Served.{Served}
use Rattle.lumber_server.specs.declared.session.Session.{Session}

abbrev pub session_state : Session → State
session_state session = state_of session.transfer session.incoming

-- nothing is laid, and what is unread is no whole frame and no fault yet
pub record IsSettled (s : State) : Type 0 where
  pub no_lines : s.lines ≡ []
  pub no_answers : s.answers ≡ []
  pub short : IsShort s.unread

-- the link and the sink go on by these pieces and bytes, and the serving ends so
pub record EndsAs (before after : Told) (s : State) (served : Served) : Type 0 where
  pub pieces : List Piece
  pub bytes : List ℕ
  pub moves : Moves before after pieces bytes
  pub keeps : (e : Exchange) → StandsFor s e → KeepsPromise (exchange_then e pieces bytes)
  pub whole : (e : Exchange) → StandsFor s e → IsWholeAt served (exchange_then e pieces bytes)
  pub stop : (e : Exchange) → StandsFor s e → StopsAs (exchange_then e pieces bytes).received served

-- the frames that were received are handed on, and the rest is settled
pub record HandsOver (before after : Told) (s t : State) : Type 0 where
  pub goes_on : GoesOn before after s t
  pub settled : IsSettled t

abbrev pub IsHandedOver : Told → Told → Session → Session → Option Served → Type 0
IsHandedOver before after old new None = HandsOver before after (session_state old) (session_state new)
IsHandedOver before after old new (Some served) = EndsAs before after (session_state old) served

-- one more turn is made: a piece came, or the count of idles rose
pub record TurnsOn (before after : Told) (idles idles_after : ℕ) (s t : State) : Type 0 where
  pub pieces : List Piece
  pub bytes : List ℕ
  pub moves : Moves before after pieces bytes
  pub stands : (e : Exchange) → StandsFor s e → StandsFor t (exchange_then e pieces bytes)
  pub settled : IsSettled t
  pub counted : IsAtEnd idles_after ⊎ (suc idles ≤ received_pieces pieces + idles_after)

-- what a settled session comes to by one turn
abbrev pub IsTurned : Told → Told → ℕ → ℕ → Session → Session → Option Served → Type 0
IsTurned before after idles idles_after old new None = TurnsOn before after idles idles_after (session_state old) (session_state new)
IsTurned before after idles idles_after old new (Some served) = EndsAs before after (session_state old) served
