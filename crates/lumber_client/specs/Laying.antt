-- What is laid out to be sent (this project's profile of Lumberjack v2): frames one after another in a buffer, a payload
-- that is lent after them, and the frames that are still to be laid.
use Rattle.std.specs.Prelude.{◌≡◌, ◌⊎◌, ℕ, suc, ◌+◌, ◌-◌, ◌<◌, ◌≤◌, List, [], ◌∷◌, ◌++◌, length, take, drop, slice_index_or, Option, Some, None, IsSome, nat_lt, if◌then◌else◌}
use Rattle.lumber_frame.specs.declared.frame.Frame.TheVariants.{Window, Json}
use Rattle.lumber_frame.specs.Frame.{frame_bytes, json_head_bytes}
use Rattle.lumber_frame.specs.Window.{numbered, window_bytes}
use Rattle.lumber_client.specs.Held.{total}

pub record Laying : Type 0 where
  -- for how many windows there is room
  pub depth : ℕ
  -- the frames that are laid, and how many of their bytes went out
  pub buffer : List ℕ
  pub start : ℕ
  -- how many bytes went out of the payload that is lent after them
  pub lent : Option ℕ
  -- of the present window, how many frames are laid or lent, and how many are left
  pub laid : ℕ
  pub left : ℕ
  -- the counts of the windows after it
  pub unlaid : List ℕ
  -- how many frames are to be laid
  pub to_lay : ℕ

abbrev pub nothing_laid : ℕ → Laying
nothing_laid depth = record { depth = depth; buffer = []; start = 0; lent = None; laid = 0; left = 0; unlaid = []; to_lay = 0 }

-- windows of these counts, of the payloads in their order
abbrev pub windows_left : List ℕ → List (List ℕ) → List ℕ
windows_left [] payloads = []
windows_left (count ∷ counts) payloads = window_bytes (take count payloads) ++ windows_left counts (drop count payloads)

-- ---- of these payloads, of which this many were begun

-- the payloads whose frames are to be laid, and those that wait
unfoldable pub rest_of : Laying → List (List ℕ) → ℕ → List (List ℕ)
rest_of l payloads begun = drop (begun - l.to_lay) payloads

unfoldable pub unlaid_bytes : Laying → List (List ℕ) → ℕ → List ℕ
unlaid_bytes l payloads begun = numbered (suc l.laid) (take l.left (rest_of l payloads begun)) ++ windows_left l.unlaid (drop l.left (rest_of l payloads begun))

-- the payload that was laid or lent last
unfoldable pub last_laid : Laying → List (List ℕ) → ℕ → List ℕ
last_laid l payloads begun = slice_index_or payloads (begun - l.to_lay - 1) []

abbrev pub lent_rest : Option ℕ → List ℕ → List ℕ
lent_rest None payload = []
lent_rest (Some sent) payload = drop sent payload

-- the first bytes that are there
abbrev pub first_of : List ℕ → List ℕ → List ℕ
first_of [] lent = lent
first_of (byte ∷ bytes) lent = byte ∷ bytes

abbrev pub behind_first : List ℕ → List ℕ → List ℕ → List ℕ
behind_first [] lent rest = rest
behind_first (byte ∷ bytes) lent rest = lent ++ rest

-- the next piece, what is after it, and all that is to go out
unfoldable pub piece_of : Laying → List (List ℕ) → ℕ → List ℕ
piece_of l payloads begun = first_of (drop l.start l.buffer) (lent_rest l.lent (last_laid l payloads begun))

unfoldable pub behind_of : Laying → List (List ℕ) → ℕ → List ℕ
behind_of l payloads begun = behind_first (drop l.start l.buffer) (lent_rest l.lent (last_laid l payloads begun)) (unlaid_bytes l payloads begun)

unfoldable pub pending : Laying → List (List ℕ) → ℕ → List ℕ
pending l payloads begun = drop l.start l.buffer ++ (lent_rest l.lent (last_laid l payloads begun) ++ unlaid_bytes l payloads begun)

-- a payload that is lent is of a frame before those that are to be laid, and not all of it went out
abbrev pub IsLent : Option ℕ → ℕ → ℕ → List ℕ → Type 0
IsLent None to_lay begun payload = Unit {0}
IsLent (Some sent) to_lay begun payload = (to_lay < begun) × (sent < length payload)

-- the same holds of what is laid of these payloads
abbrev pub Lends : Laying → List (List ℕ) → ℕ → ℕ → Type 0
Lends l payloads begun most = IsLent l.lent l.to_lay most (last_laid l payloads begun)

-- the frames to be laid are those that are left of the present window and those of the windows after it
abbrev pub IsCounted : Laying → Type 0
IsCounted l = l.to_lay ≡ l.left + total l.unlaid

-- no frame is to be laid
pub record IsIdle (l : Laying) : Type 0 where
  pub left : l.left ≡ 0
  pub unlaid : l.unlaid ≡ []
  pub to_lay : l.to_lay ≡ 0

-- ---- steps

-- the next window's frame was laid
pub record LaysHead (old new : Laying) : Type 0 where
  pub count : ℕ
  pub others : List ℕ
  pub was : old.unlaid ≡ count ∷ others
  pub fits : count ≤ old.to_lay
  pub is : new ≡ record {
    depth = old.depth;
    buffer = old.buffer ++ frame_bytes (Window count);
    start = old.start;
    lent = old.lent;
    laid = 0;
    left = count;
    unlaid = others;
    to_lay = old.to_lay;
  }

-- with these bytes in the buffer and so much of the payload lent, its frame is laid
abbrev pub with_frame : Laying → List ℕ → Option ℕ → Laying
with_frame old bytes lent = record {
  depth = old.depth;
  buffer = old.buffer ++ bytes;
  start = old.start;
  lent = lent;
  laid = old.laid + 1;
  left = old.left - 1;
  unlaid = old.unlaid;
  to_lay = old.to_lay - 1;
}

-- a frame was laid whole, or only its head, and the payload is lent
abbrev pub LaysFrame : Laying → List ℕ → Laying → Type 0
LaysFrame old payload new =
    (new ≡ with_frame old (frame_bytes (Json (suc old.laid) payload)) None)
    ⊎ ((new ≡ with_frame old (json_head_bytes (suc old.laid) (length payload)) (Some 0)) × (0 < length payload))

-- one more frame was laid, that of the next window or the next one of the present window
pub record LaysNext (old : Laying) (payloads : List (List ℕ)) (begun : ℕ) (new : Laying) : Type 0 where
  pub none_lent : old.lent ≡ None
  pub lays : ((old.left ≡ 0) × LaysHead old new) ⊎ ((0 < old.left) × LaysFrame old (slice_index_or payloads (begun - old.to_lay) []) new)

-- a payload is lent, something is laid, or nothing is to be laid
abbrev pub LaysNoMore : Laying → Type 0
LaysNoMore l = (IsSome l.lent) ⊎ ((0 < length l.buffer) ⊎ IsIdle l)

-- this many bytes of the next piece went out, if this payload may be lent
abbrev pub lent_after : Option ℕ → ℕ → List ℕ → Option ℕ
lent_after None n payload = None
lent_after (Some sent) n payload = if nat_lt (sent + n) (length payload) then Some (sent + n) else None

abbrev pub passed_by : Laying → ℕ → List ℕ → Laying
passed_by l n payload = record {
  depth = l.depth;
  buffer = l.buffer;
  start = if nat_lt l.start (length l.buffer) then l.start + n else l.start;
  lent = if nat_lt l.start (length l.buffer) then l.lent else lent_after l.lent n payload;
  laid = l.laid;
  left = l.left;
  unlaid = l.unlaid;
  to_lay = l.to_lay;
}

-- a window of this many frames is to be laid after the others
abbrev pub with_window : Laying → ℕ → Laying
with_window l count = record {
  depth = l.depth;
  buffer = l.buffer;
  start = l.start;
  lent = l.lent;
  laid = l.laid;
  left = l.left;
  unlaid = l.unlaid ++ count ∷ [];
  to_lay = l.to_lay + count;
}

-- frames were laid if nothing was left of those before them, or all stayed as it was
pub record Refills (old : Laying) (payloads : List (List ℕ)) (begun : ℕ) (new : Laying) : Type 0 where
  pub same_bytes : pending new payloads begun ≡ pending old payloads begun
  pub something_or_all_out : piece_of new payloads begun ≡ [] → IsIdle new
  pub lent : (most : ℕ) → old.to_lay ≤ most → Lends old payloads begun most → Lends new payloads begun most
  pub counted : IsCounted new
  pub fewer_to_lay : new.to_lay ≤ old.to_lay
  pub fewer_windows : length new.unlaid ≤ length old.unlaid
  pub depth : new.depth ≡ old.depth
