-- The receiver's promise (Lumberjack v2; this project's profile): what was written and sent is a front of the lines and of
-- the answers of what was received, and a byte of an acknowledgement was sent only if the lines of all frames up to the
-- one that it acknowledges are in the sink whole.
use Rattle.std.specs.Prelude.{◌≡◌, ℕ, List, ◌++◌, take}
use Rattle.lumber_frame.specs.declared.frame.Frame.{Frame}
use Rattle.lumber_server.specs.Received.{AreReceived, BeginsWithFrames}
use Rattle.lumber_server.specs.Written.{answers_of, lines_of}

-- the bytes that came over a link, those that were sent over it, and those that were written
pub record Exchange : Type 0 where
  pub received : List ℕ
  pub sent : List ℕ
  pub written : List ℕ

pub record KeepsPromise (e : Exchange) : Type 0 where
  -- frames that were received
  pub frames : List Frame
  pub rest : List ℕ
  pub front : BeginsWithFrames e.received frames rest
  -- a front of their lines was written
  pub written_count : ℕ
  pub written : e.written ≡ take written_count (lines_of frames)
  -- the first ones, all of whose lines were written
  pub confirmed : List Frame
  pub later : List Frame
  pub parts : frames ≡ confirmed ++ later
  pub more : List ℕ
  pub lines : e.written ≡ lines_of confirmed ++ more
  -- a front of their answers was sent
  pub sent_count : ℕ
  pub sent : e.sent ≡ take sent_count (answers_of confirmed)

-- all lines of what was received were written, and all its answers sent
pub record IsWhole (e : Exchange) : Type 0 where
  pub frames : List Frame
  pub received : AreReceived e.received frames
  pub written : e.written ≡ lines_of frames
  pub sent : e.sent ≡ answers_of frames
