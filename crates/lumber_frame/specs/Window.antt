-- Windows, each the list of its payloads, and the windows that were sent (Lumberjack v2): a window frame of the count,
-- at least 1, then JSON frames numbered from 1 to the count; the last window may be cut.
use Rattle.std.specs.Prelude.{◌≡◌, ℕ, suc, ◌<◌, ◌≤◌, ◌^◌, List, [], ◌∷◌, ◌++◌, length}
use Rattle.std.specs.List.{AllByRecursion, flat_map}
use Rattle.wire_base.specs.declared.parcel.TheConstants.{MAX_PAYLOAD}
use Rattle.lumber_frame.specs.declared.frame.Frame.TheVariants.{Window, Json}
use Rattle.lumber_frame.specs.Frame.{frame_bytes}

-- the JSON frames of the payloads, numbered from `sequence` on
abbrev pub numbered : ℕ → List (List ℕ) → List ℕ
numbered sequence [] = []
numbered sequence (payload ∷ payloads) = frame_bytes (Json sequence payload) ++ numbered (suc sequence) payloads

-- the window frame of the count, and the JSON frames
abbrev pub window_bytes : List (List ℕ) → List ℕ
window_bytes payloads = frame_bytes (Window (length payloads)) ++ numbered 1 payloads

-- the bytes are the JSON frames of this many payloads, numbered from `sequence` on, and then the rest
pub record IsNumbered (sequence count : ℕ) (bytes : List ℕ) (payloads : List (List ℕ)) (rest : List ℕ) : Type 0 where
  pub counted : length payloads ≡ count
  pub each : AllByRecursion (λ payload. length payload ≤ MAX_PAYLOAD) payloads
  pub front : bytes ≡ numbered sequence payloads ++ rest

-- at least one payload, none of them too long
pub record IsWindow (payloads : List (List ℕ)) : Type 0 where
  pub some : 0 < length payloads
  pub few : length payloads < 2 ^ 32
  pub each : AllByRecursion (λ payload. length payload ≤ MAX_PAYLOAD) payloads

-- the bytes are a whole window, and then the rest
pub record BeginsWithWindow (bytes : List ℕ) (payloads : List (List ℕ)) (rest : List ℕ) : Type 0 where
  pub is : IsWindow payloads
  pub front : bytes ≡ window_bytes payloads ++ rest

-- the bytes are these windows, and then no other whole one
pub record AreWindows (bytes : List ℕ) (windows : List (List (List ℕ))) : Type 0 where
  pub each : AllByRecursion IsWindow windows
  pub rest : List ℕ
  pub whole : bytes ≡ flat_map window_bytes windows ++ rest
  pub cut : (payloads : List (List ℕ)) (more : List ℕ) → ¬ (BeginsWithWindow rest payloads more)
