-- What bytes that were received begin with (Lumberjack v2): the frame that is owed, a place at which reading stops,
-- or neither yet.
use Rattle.std.specs.Prelude.{◌≤◌, ℕ, List, length}
use Rattle.lumber_frame.specs.Frame.{BeginsWithFrame, frame_of}
use Rattle.lumber_frame.specs.Reading.{IsShort}
use Rattle.lumber_server.specs.declared.reading.Next.{Next}
use Rattle.lumber_server.specs.declared.reading.Next.TheVariants.{Owed, Stop, Short}
use Rattle.lumber_frame.specs.declared.frame.FrameView.{FrameView}
use Rattle.lumber_server.specs.Received.{IsOwed, Standing, StopsIn}

pub record IsOwedFrame (here : Standing) (bytes : List ℕ) (frame : FrameView) (used : ℕ) : Type 0 where
  pub begins : BeginsWithFrame bytes (frame_of frame) used
  pub owed : IsOwed here (frame_of frame)
  pub within : used ≤ length bytes

abbrev pub IsNext : Standing → List ℕ → Next → Type 0
IsNext here bytes (Owed frame used) = IsOwedFrame here bytes frame used
IsNext here bytes (Stop place) = StopsIn here bytes place
IsNext here bytes Short = IsShort bytes
