-- The frames that are sent and received here and the bytes of each (Lumberjack v2): version, kind, numbers and
-- payload, every number in four bytes, the highest first.
use Rattle.std.specs.Prelude.{◌≡◌, ℕ, ◌<◌, ◌≤◌, ◌^◌, List, ◌∷◌, ◌++◌, length, take}
use Rattle.std.specs.Int.{w32, to_be_bytes}
use Rattle.wire_base.specs.declared.parcel.TheConstants.{MAX_PAYLOAD}
use Rattle.lumber_frame.specs.declared.frame.Frame.{Frame}
use Rattle.lumber_frame.specs.declared.frame.Frame.TheVariants.{Window, Json, Ack}
use Rattle.lumber_frame.specs.declared.frame.FrameView.{FrameView}
use Rattle.lumber_frame.specs.declared.frame.FrameView.TheVariants as view

-- what has bytes: numbers of four bytes, and a payload that is not too long
abbrev pub IsFrame : Frame → Type 0
IsFrame (Window count) = count < 2 ^ 32
IsFrame (Json sequence payload) = (sequence < 2 ^ 32) × (length payload ≤ MAX_PAYLOAD)
IsFrame (Ack sequence) = sequence < 2 ^ 32

-- what comes before a payload of this length
abbrev pub json_head_bytes : ℕ → ℕ → List ℕ
json_head_bytes sequence size = 0x32 ∷ 0x4a ∷ (to_be_bytes w32 sequence ++ to_be_bytes w32 size)

-- `2`, then `W` and the count, `J` and the sequence, the payload's length and the payload, or `A` and the sequence
abbrev pub frame_bytes : Frame → List ℕ
frame_bytes (Window count) = 0x32 ∷ 0x57 ∷ to_be_bytes w32 count
frame_bytes (Json sequence payload) = json_head_bytes sequence (length payload) ++ payload
frame_bytes (Ack sequence) = 0x32 ∷ 0x41 ∷ to_be_bytes w32 sequence

-- the bytes begin with the whole frame, which takes `used` of them, whatever follows
pub record BeginsWithFrame (bytes : List ℕ) (frame : Frame) (used : ℕ) : Type 0 where
  pub fits : IsFrame frame
  pub size : used ≡ length (frame_bytes frame)
  pub front : take used bytes ≡ frame_bytes frame

-- the frame that a borrowed one shows
abbrev pub frame_of : FrameView → Frame
frame_of (view.Window count) = Window count
frame_of (view.Json sequence payload) = Json sequence payload.now
frame_of (view.Ack sequence) = Ack sequence
