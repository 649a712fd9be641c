-- What a transfer holds, and for which exchange it stands (Lumberjack v2; this project's profile).
use Rattle.std.specs.Prelude.{◌≡◌, ℕ, List, [], ◌++◌, length}
use Rattle.std.specs.List.{flat_map}
use Rattle.wire_base.specs.declared.talk.Piece.{Piece}
use Rattle.lumber_frame.specs.Talk.{in_bytes, out_bytes}
use Rattle.lumber_frame.specs.declared.frame.Frame.{Frame}
use Rattle.lumber_frame.specs.Frame.{frame_bytes}
use Rattle.lumber_answers.specs.Changes.{SinkTakes, TalkGoesOn, received_pieces}
use Rattle.lumber_server.specs.Ends.{up_to_end}
use Rattle.lumber_answers.specs.HandingOn.{Told}
use Rattle.lumber_server.specs.Promise.{Exchange, KeepsPromise}
use Rattle.lumber_server.specs.Received.{BeginsWithFrames, Standing, at_first, behind_frames}
use Rattle.lumber_server.specs.Written.{answers_of, lines_of}
use Rattle.lumber_server.specs.declared.transfer.Transfer.{Transfer}

-- the bytes that were received and not read, where the reading is, the lines and the answers that are laid, and how
-- many bytes were read, up to the end of the type
pub record State : Type 0 where
  pub unread : List ℕ
  pub here : Standing
  pub lines : List ℕ
  pub answers : List ℕ
  pub passed : ℕ

abbrev pub state_of : Transfer → List ℕ → State
state_of transfer unread = record {
  unread = unread;
  here = transfer.reading;
  lines = transfer.outgoing.lines.items;
  answers = transfer.outgoing.answers.items;
  passed = transfer.passed;
}

-- before the first byte
abbrev pub state_at_first : State
state_at_first = record { unread = []; here = at_first; lines = []; answers = []; passed = 0 }

abbrev pub nothing_exchanged : Exchange
nothing_exchanged = record { received = []; sent = []; written = [] }

-- what was laid and not handed on is what is missing of the exchange
pub record StandsFor (s : State) (e : Exchange) : Type 0 where
  pub frames : List Frame
  pub front : BeginsWithFrames e.received frames s.unread
  pub here : s.here ≡ behind_frames at_first frames
  pub lines : e.written ++ s.lines ≡ lines_of frames
  pub answers : e.sent ++ s.answers ≡ answers_of frames
  pub confirmed : List Frame
  pub later : List Frame
  pub parts : frames ≡ confirmed ++ later
  pub sent : e.sent ≡ answers_of confirmed
  pub more : List ℕ
  pub written : e.written ≡ lines_of confirmed ++ more
  pub passed : s.passed ≡ up_to_end (length (flat_map frame_bytes frames))

-- an exchange that goes on by pieces of the talk and by bytes that are written
abbrev pub exchange_then : Exchange → List Piece → List ℕ → Exchange
exchange_then e pieces bytes = record {
  received = e.received ++ in_bytes pieces;
  sent = e.sent ++ out_bytes pieces;
  written = e.written ++ bytes;
}

-- the link and the sink go on by these pieces and bytes
pub record Moves (before after : Told) (pieces : List Piece) (bytes : List ℕ) : Type 0 where
  pub talk : TalkGoesOn before.told pieces after.told
  pub written : SinkTakes before.written bytes after.written

-- what stood for an exchange before stands for it and what was added afterwards
pub record GoesOn (before after : Told) (old new : State) : Type 0 where
  pub pieces : List Piece
  pub bytes : List ℕ
  pub moves : Moves before after pieces bytes
  pub none_received : received_pieces pieces ≡ 0
  pub stands : (e : Exchange) → StandsFor old e → StandsFor new (exchange_then e pieces bytes)

-- and if it goes on no more, the promise is kept
pub record Fails (before after : Told) (old : State) : Type 0 where
  pub pieces : List Piece
  pub bytes : List ℕ
  pub moves : Moves before after pieces bytes
  pub none_received : received_pieces pieces ≡ 0
  pub keeps : (e : Exchange) → StandsFor old e → KeepsPromise (exchange_then e pieces bytes)
