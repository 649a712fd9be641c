-- What is read is one thing only: a frame, a fault, or neither.
use Rattle.std.proofs.Common.{◌≡◌, ℕ, suc, ◌+◌, ◌-◌, ◌^◌, ◌<◌, ◌≤◌, ◌↔◌, List, [], ◌∷◌, ◌++◌, length, slice_index, slice_range, take, drop, refl, ap, subst, arith, inl, inr}
use Rattle.std.specs.Int.{w32, from_be_bytes, to_be_bytes}
use Rattle.std.proofs.lemmas.List.{length-take, length-drop, get_or-take, get_or-drop, get_or_past}
use Rattle.std.proofs.lemmas.Bool.{cases_lt}
use Rattle.wire_base.specs.declared.parcel.TheConstants.{MAX_PAYLOAD}
use Rattle.lumber_frame.specs.declared.frame.Frame.{Frame}
use Rattle.lumber_frame.specs.declared.frame.Frame.TheVariants.{Window, Json, Ack}
use Rattle.lumber_frame.specs.declared.frame.FrameRead.{FrameRead}
use Rattle.lumber_frame.specs.declared.frame.FrameRead.TheVariants.{Whole, Bad, Short}
use Rattle.lumber_frame.specs.Frame.{IsFrame, BeginsWithFrame, frame_of, frame_bytes, json_head_bytes}
use Rattle.lumber_frame.specs.Fault.{IsBadAt}
use Rattle.lumber_frame.specs.Reading.{Reads, IsShort, IsWholeOf}
use Rattle.lumber_frame.proofs.Frames.{IsBytes, number_back, frame_is_good, frame_once, written}

-- bytes are refused at one place
bad_once : (bytes : List ℕ) (a b : ℕ) → IsBadAt bytes a → IsBadAt bytes b → a ≡ b
bad_once bytes a b first second = grind arith

-- `Short` is read of short bytes and of no others
pub short_from : (bytes : List ℕ) (read : FrameRead) → Reads bytes read → (read ≡ Short) ↔ IsShort bytes
short_from bytes (Whole frame used) reads = (λ e. absurd cc, λ short. absurd (short.no_frame (frame_of frame) used reads))
short_from bytes (Bad at) reads = (λ e. absurd cc, λ short. absurd (short.no_fault at reads))
short_from bytes Short reads = (λ _. reads, λ _. refl)

-- what is refused is not short
pub short_at_fault : (bytes : List ℕ) (at : ℕ) → IsBadAt bytes at → (Bad at ≡ Short) ↔ IsShort bytes
short_at_fault bytes at bad = short_from bytes (Bad at) bad

-- `Bad` is read of what is refused, at its place, and of nothing else
pub bad_from : (bytes : List ℕ) (read : FrameRead) → Reads bytes read → (at : ℕ) → (read ≡ Bad at) ↔ IsBadAt bytes at
bad_from bytes (Whole frame used) reads at = (λ e. absurd cc, λ bad. absurd (frame_is_good bytes (frame_of frame) used at reads bad))
bad_from bytes (Bad there) reads at = (
  λ e. let places : there ≡ at = cc in subst (λ (place : ℕ). IsBadAt bytes place) places reads,
  λ bad. ap Bad (bad_once bytes there at reads bad),
)
bad_from bytes Short reads at = (λ e. absurd cc, λ bad. absurd (reads.no_fault at bad))

-- a whole frame is read of what begins with it, and of nothing else
pub whole_from : (bytes : List ℕ) (read : FrameRead) → Reads bytes read → (frame : Frame) (used : ℕ) → BeginsWithFrame bytes frame used → IsWholeOf read frame used
whole_from bytes (Whole view taken) reads frame used begins = frame_once bytes (frame_of view) frame taken used reads begins
whole_from bytes (Bad at) reads frame used begins = frame_is_good bytes frame used at begins reads
whole_from bytes Short reads frame used begins = reads.no_frame frame used begins

-- a frame that is written is read again
pub read_again : (frame : Frame) (rest : List ℕ) (read : FrameRead) → IsFrame frame → Reads (frame_bytes frame ++ rest) read → IsWholeOf read frame (length (frame_bytes frame))
read_again frame rest read fits reads = whole_from (frame_bytes frame ++ rest) read reads frame (length (frame_bytes frame)) (written frame rest fits)

-- the second byte is a kind, and four bytes after it a number
record IsNumbered (bytes : List ℕ) (kind : ℕ) : Type 0 where
  small : IsBytes bytes
  long : 6 ≤ length bytes
  version : slice_index bytes 0 ≡ 0x32
  kind_is : slice_index bytes 1 ≡ kind

numbered : (bytes : List ℕ) (kind : ℕ) → IsNumbered bytes kind → take 6 bytes ≡ 0x32 ∷ kind ∷ to_be_bytes w32 (from_be_bytes w32 (slice_range bytes 2 6))
numbered [] kind is = absurd (omega arith)
numbered (v ∷ []) kind is = absurd (omega arith)
numbered (v ∷ k ∷ []) kind is = absurd (omega arith)
numbered (v ∷ k ∷ a ∷ []) kind is = absurd (omega arith)
numbered (v ∷ k ∷ a ∷ b ∷ []) kind is = absurd (omega arith)
numbered (v ∷ k ∷ a ∷ b ∷ c ∷ []) kind is = absurd (omega arith)
numbered (v ∷ k ∷ a ∷ b ∷ c ∷ d ∷ rest) kind is =
    let back = number_back a b c d (is.small 2) (is.small 3) (is.small 4) (is.small 5) in
    let version : v ≡ 0x32 = is.version in
    let kind_is : k ≡ kind = is.kind_is in
    cc

bytes_drop : (n : ℕ) (bytes : List ℕ) → IsBytes bytes → IsBytes (drop n bytes)
bytes_drop n bytes small i = rw get_or-drop (small (n + i))

bytes_take : (n : ℕ) (bytes : List ℕ) → IsBytes bytes → IsBytes (take n bytes)
bytes_take n bytes small i =
    elim (cases_lt i n) [
      | inl lt ↦ rw (get_or-take n bytes i 0 lt) (small i)
      | inr le ↦ rw (get_or_past (take n bytes) i 0 (omega (arith, length-take n bytes))) (omega arith)
    ]

number_fits : (bytes : List ℕ) (at : ℕ) → IsBytes bytes → from_be_bytes w32 (slice_range bytes at (at + 4)) < 2 ^ 32
number_fits bytes at small =
    let four = bytes_take (at + 4 - at) (drop at bytes) (bytes_drop at bytes small) in
    omega (arith, four 0, four 1, four 2, four 3)

-- a window frame in front
pub window_front : (bytes : List ℕ) (number : ℕ) → IsBytes bytes → 6 ≤ length bytes → slice_index bytes 0 ≡ 0x32 → slice_index bytes 1 ≡ 0x57 → number ≡ from_be_bytes w32 (slice_range bytes 2 6) → BeginsWithFrame bytes (Window number) 6
window_front bytes number small long version kind_is number_is =
    rw number_is (record { fits = number_fits bytes 2 small; size = refl; front = numbered bytes 0x57 (record { small = small; long = long; version = version; kind_is = kind_is }) })

-- an acknowledgement in front
pub ack_front : (bytes : List ℕ) (number : ℕ) → IsBytes bytes → 6 ≤ length bytes → slice_index bytes 0 ≡ 0x32 → slice_index bytes 1 ≡ 0x41 → number ≡ from_be_bytes w32 (slice_range bytes 2 6) → BeginsWithFrame bytes (Ack number) 6
ack_front bytes number small long version kind_is number_is =
    rw number_is (record { fits = number_fits bytes 2 small; size = refl; front = numbered bytes 0x41 (record { small = small; long = long; version = version; kind_is = kind_is }) })

json_cells : (bytes : List ℕ) (size : ℕ) → IsBytes bytes → 10 ≤ length bytes → slice_index bytes 0 ≡ 0x32 → slice_index bytes 1 ≡ 0x4a → size ≡ from_be_bytes w32 (slice_range bytes 6 10) → take (10 + size) bytes ≡ json_head_bytes (from_be_bytes w32 (slice_range bytes 2 6)) size ++ take size (drop 10 bytes)
json_cells [] size small long version kind_is size_is = absurd (omega arith)
json_cells (v ∷ []) size small long version kind_is size_is = absurd (omega arith)
json_cells (v ∷ k ∷ []) size small long version kind_is size_is = absurd (omega arith)
json_cells (v ∷ k ∷ a ∷ []) size small long version kind_is size_is = absurd (omega arith)
json_cells (v ∷ k ∷ a ∷ b ∷ []) size small long version kind_is size_is = absurd (omega arith)
json_cells (v ∷ k ∷ a ∷ b ∷ c ∷ []) size small long version kind_is size_is = absurd (omega arith)
json_cells (v ∷ k ∷ a ∷ b ∷ c ∷ d ∷ []) size small long version kind_is size_is = absurd (omega arith)
json_cells (v ∷ k ∷ a ∷ b ∷ c ∷ d ∷ e ∷ []) size small long version kind_is size_is = absurd (omega arith)
json_cells (v ∷ k ∷ a ∷ b ∷ c ∷ d ∷ e ∷ f ∷ []) size small long version kind_is size_is = absurd (omega arith)
json_cells (v ∷ k ∷ a ∷ b ∷ c ∷ d ∷ e ∷ f ∷ g ∷ []) size small long version kind_is size_is = absurd (omega arith)
json_cells (v ∷ k ∷ a ∷ b ∷ c ∷ d ∷ e ∷ f ∷ g ∷ h ∷ rest) size small long version kind_is size_is =
    let sequence = number_back a b c d (small 2) (small 3) (small 4) (small 5) in
    let back = number_back e f g h (small 6) (small 7) (small 8) (small 9) in
    let version : v ≡ 0x32 = version in
    let kind_is : k ≡ 0x4a = kind_is in
    let ten : 10 + size ≡ suc (suc (suc (suc (suc (suc (suc (suc (suc (suc size))))))))) = omega arith in
    rw (ten, size_is) cc

-- a JSON frame in front
pub json_front : (bytes : List ℕ) (sequence size : ℕ) → IsBytes bytes → slice_index bytes 0 ≡ 0x32 → slice_index bytes 1 ≡ 0x4a → size ≡ from_be_bytes w32 (slice_range bytes 6 10) → sequence ≡ from_be_bytes w32 (slice_range bytes 2 6) → size ≤ MAX_PAYLOAD → 10 + size ≤ length bytes → BeginsWithFrame bytes (Json sequence (slice_range bytes 10 (10 + size))) (10 + size)
json_front bytes sequence size small version kind_is size_is sequence_is few long =
    let ten : 10 + size - 10 ≡ size = omega arith in
    let payload : length (take size (drop 10 bytes)) ≡ size = omega (arith, length-take size (drop 10 bytes), length-drop 10 bytes) in
    rw (ten, sequence_is) (record {
      fits = (number_fits bytes 2 small, omega arith);
      size = omega (arith);
      front = rw payload (json_cells bytes size small (omega arith) version kind_is size_is);
    })
