-- What the serving of one link comes to (Lumberjack v2; this project's profile).
use Rattle.std.specs.Prelude.{◌≡◌, ℕ, ◌+◌, ◌-◌, ◌≤◌, List, Option}
use Rattle.outside.specs.Counts.{IsAtEnd}
use Rattle.outside.specs.Talks.{Talk}
use Rattle.wire_base.specs.declared.talk.Piece.{Piece}
use Rattle.lumber_frame.specs.Talk.{in_bytes, out_bytes}
use Rattle.lumber_answers.specs.Changes.{SinkTakes, TalkGoesOn, received_pieces}
use Rattle.lumber_server.specs.Promise.{Exchange, IsWhole, KeepsPromise}
use Rattle.lumber_server.specs.Received.{StopsAt}
use Rattle.lumber_server.specs.declared.served.Served.{Served}
use Rattle.lumber_server.specs.declared.served.Served.TheVariants.{Ended, SendFault, OutFault, Bad, Stopped, NoMemory}
use Rattle.lumber_server.specs.Ends.{up_to_end}

-- what is known of the link, the sink and the bell before a serving and after it
pub record ServeCall : Type 0 where
  pub talk_before : Option Talk
  pub talk_after : Option Talk
  pub written_before : Option (List ℕ)
  pub written_after : Option (List ℕ)
  pub questions_before : ℕ
  pub questions_after : ℕ
  pub idles_before : ℕ
  pub idles_after : ℕ

-- the bytes that these pieces of a talk brought and took, and the bytes that were written
abbrev pub exchange_of : List Piece → List ℕ → Exchange
exchange_of pieces bytes = record { received = in_bytes pieces; sent = out_bytes pieces; written = bytes }

-- if the peer ended, was refused or the bell rang, all of what was received is written and answered
abbrev pub IsWholeAt : Served → Exchange → Type 0
IsWholeAt Ended e = IsWhole e
IsWholeAt SendFault e = Unit {0}
IsWholeAt OutFault e = Unit {0}
IsWholeAt (Bad place) e = IsWhole e
IsWholeAt Stopped e = IsWhole e
IsWholeAt NoMemory e = Unit {0}

-- a place is reported if reading stops there, and if the peer ended or the bell rang it stops nowhere
abbrev pub StopsAs : List ℕ → Served → Type 0
StopsAs received Ended = (place : ℕ) → ¬ (StopsAt received place)
StopsAs received SendFault = Unit {0}
StopsAs received OutFault = Unit {0}
StopsAs received (Bad told) = (place : ℕ) × (StopsAt received place × (told ≡ up_to_end place))
StopsAs received Stopped = (place : ℕ) → ¬ (StopsAt received place)
StopsAs received NoMemory = Unit {0}

pub record Serves (call : ServeCall) (served : Served) : Type 0 where
  -- the pieces by which the talk went on, and the bytes that the sink took
  pub pieces : List Piece
  pub bytes : List ℕ
  pub talk : TalkGoesOn call.talk_before pieces call.talk_after
  pub written : SinkTakes call.written_before bytes call.written_after
  pub keeps : KeepsPromise (exchange_of pieces bytes)
  pub whole : IsWholeAt served (exchange_of pieces bytes)
  pub stop : StopsAs (in_bytes pieces) served
  pub questions : ¬ (IsAtEnd call.idles_after) →
      call.questions_after ≤ call.questions_before + (received_pieces pieces + (call.idles_after - call.idles_before) + 1)
