-- What bytes are read as (Lumberjack v2): the whole frame in front, a fault at its place, or neither yet.
use Rattle.std.specs.Prelude.{◌≡◌, ℕ, List}
use Rattle.lumber_frame.specs.declared.frame.Frame.{Frame}
use Rattle.lumber_frame.specs.declared.frame.FrameView.{FrameView}
use Rattle.lumber_frame.specs.declared.frame.FrameRead.{FrameRead}
use Rattle.lumber_frame.specs.declared.frame.FrameRead.TheVariants.{Whole, Bad, Short}
use Rattle.lumber_frame.specs.Frame.{BeginsWithFrame, frame_of}
use Rattle.lumber_frame.specs.Fault.{IsBadAt}

-- neither a whole frame in front nor a fault: more bytes are wanted
pub record IsShort (bytes : List ℕ) : Type 0 where
  pub no_frame : (frame : Frame) (used : ℕ) → ¬ (BeginsWithFrame bytes frame used)
  pub no_fault : (at : ℕ) → ¬ (IsBadAt bytes at)

-- the answer stands for these bytes: their frame and its length, the place of their fault, or neither
abbrev pub Reads : List ℕ → FrameRead → Type 0
Reads bytes (Whole frame used) = BeginsWithFrame bytes (frame_of frame) used
Reads bytes (Bad at) = IsBadAt bytes at
Reads bytes Short = IsShort bytes

-- if a whole frame was read, this holds of it and of how many bytes it took
abbrev pub IfWhole : FrameRead → (FrameView → ℕ → Type 0) → Type 0
IfWhole (Whole frame used) P = P frame used
IfWhole (Bad at) P = Unit {0}
IfWhole Short P = Unit {0}

-- this frame was read, and it took this many bytes
abbrev pub IsWholeOf : FrameRead → Frame → ℕ → Type 0
IsWholeOf (Whole view taken) frame used = (frame_of view ≡ frame) × (taken ≡ used)
IsWholeOf (Bad at) frame used = ⊥
IsWholeOf Short frame used = ⊥
