-- Received lines (Lumberjack v2; this project's profile). The bytes of a link are read as frames from the first byte on:
-- a window frame of any count, then JSON frames numbered from 1 to the count, then the next window frame. Reading stops at
-- the place that shows a fault, or at the first byte of a whole frame that is not the one owed.
use Rattle.std.specs.Prelude.{◌≡◌, ◌⊎◌, ℕ, suc, ◌+◌, ◌<◌, List, [], ◌∷◌, ◌++◌, length}
use Rattle.std.specs.List.{AllByRecursion, flat_map}
use Rattle.lumber_frame.specs.declared.frame.Frame.{Frame}
use Rattle.lumber_frame.specs.declared.frame.Frame.TheVariants.{Window, Json, Ack}
use Rattle.lumber_frame.specs.Frame.{IsFrame, BeginsWithFrame, frame_bytes}
use Rattle.lumber_frame.specs.Fault.{IsBadAt}

-- where a reading is: how many JSON frames the last window has, and how many of them were read
pub record Standing : Type 0 where
  pub count : ℕ
  pub taken : ℕ

-- before the first window
abbrev pub at_first : Standing
at_first = record { count = 0; taken = 0 }

-- the frame is the one owed: the next of the window, or a window frame if the window is full
abbrev pub IsOwed : Standing → Frame → Type 0
IsOwed here (Window count) = here.taken ≡ here.count
IsOwed here (Json sequence payload) = (here.taken < here.count) × (sequence ≡ suc here.taken)
IsOwed here (Ack sequence) = ⊥

abbrev pub behind_frame : Standing → Frame → Standing
behind_frame here (Window count) = record { count = count; taken = 0 }
behind_frame here (Json sequence payload) = record { count = here.count; taken = sequence }
behind_frame here (Ack sequence) = here

abbrev pub behind_frames : Standing → List Frame → Standing
behind_frames here [] = here
behind_frames here (frame ∷ frames) = behind_frames (behind_frame here frame) frames

-- each frame is the one owed where it is
abbrev pub AreOwed : Standing → List Frame → Type 0
AreOwed here [] = Unit {0}
AreOwed here (frame ∷ frames) = IsOwed here frame × AreOwed (behind_frame here frame) frames

-- the bytes are these frames, each the one owed, and then the rest
pub record BeginsWithFrames (bytes : List ℕ) (frames : List Frame) (rest : List ℕ) : Type 0 where
  pub each : AllByRecursion IsFrame frames
  pub owed : AreOwed at_first frames
  pub whole : bytes ≡ flat_map frame_bytes frames ++ rest

-- and these are all that are received: the rest does not begin with the frame that is owed
pub record AreReceived (bytes : List ℕ) (frames : List Frame) : Type 0 where
  pub rest : List ℕ
  pub front : BeginsWithFrames bytes frames rest
  pub no_more : (frame : Frame) (used : ℕ) → BeginsWithFrame rest frame used → ¬ (IsOwed (behind_frames at_first frames) frame)

-- the bytes show a fault at this place, or begin with a whole frame that is not the one owed
abbrev pub StopsIn : Standing → List ℕ → ℕ → Type 0
StopsIn here bytes place =
    IsBadAt bytes place ⊎ ((place ≡ 0) × ((frame : Frame) × (used : ℕ) × (BeginsWithFrame bytes frame used × (¬ (IsOwed here frame)))))

-- reading stops at this place of the bytes
pub record StopsAt (bytes : List ℕ) (place : ℕ) : Type 0 where
  pub frames : List Frame
  pub rest : List ℕ
  pub front : BeginsWithFrames bytes frames rest
  pub within : ℕ
  pub stop : StopsIn (behind_frames at_first frames) rest within
  pub is : place ≡ length (flat_map frame_bytes frames) + within
