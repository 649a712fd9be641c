-- Which bytes begin no frame however they go on, and at which place that shows (this project's profile of Lumberjack v2:
-- windows, JSON frames and acknowledgements only, and payloads of at most `MAX_PAYLOAD` bytes).
use Rattle.std.specs.Prelude.{◌≡◌, ◌≢◌, ◌⊎◌, ℕ, ◌<◌, ◌≤◌, List, length, slice_index, slice_range}
use Rattle.std.specs.Int.{w32, from_be_bytes}
use Rattle.wire_base.specs.declared.parcel.TheConstants.{MAX_PAYLOAD}

-- the first byte is there and is not `2`
pub record IsOtherVersion (bytes : List ℕ) : Type 0 where
  pub there : 1 ≤ length bytes
  pub version : slice_index bytes 0 ≢ 0x32

-- the first byte is `2`, and the second is there and is none of `W`, `J` and `A`
pub record IsOtherKind (bytes : List ℕ) : Type 0 where
  pub there : 2 ≤ length bytes
  pub version : slice_index bytes 0 ≡ 0x32
  pub no_window : slice_index bytes 1 ≢ 0x57
  pub no_json : slice_index bytes 1 ≢ 0x4a
  pub no_acknowledgement : slice_index bytes 1 ≢ 0x41

-- a JSON frame whose four bytes of length are there and say too much
pub record IsTooLong (bytes : List ℕ) : Type 0 where
  pub there : 10 ≤ length bytes
  pub version : slice_index bytes 0 ≡ 0x32
  pub kind : slice_index bytes 1 ≡ 0x4a
  pub size : MAX_PAYLOAD < from_be_bytes w32 (slice_range bytes 6 10)

-- the bytes are refused at this place
abbrev pub IsBadAt : List ℕ → ℕ → Type 0
IsBadAt bytes at =
    ((at ≡ 0) × IsOtherVersion bytes) ⊎ (((at ≡ 1) × IsOtherKind bytes) ⊎ ((at ≡ 6) × IsTooLong bytes))
