-- What a talk acknowledges (Lumberjack v2; this project's profile for several windows in flight). An acknowledgement
-- asks of the oldest window that was wholly out before its first byte came and that the earlier ones did not acknowledge
-- in full, or of the last that was out if each is; the greatest number that was given for a window counts. A number
-- above that window's count (or above 0 if none was out) is a fault, and after the first fault nothing counts.
use Rattle.std.specs.Prelude.{◌≡◌, ℕ, zero, suc, ◌+◌, ◌-◌, max, List, [], ◌∷◌, ◌++◌, length, take, slice_index_or, nat_le, ◌==◌, ◌&&◌, if◌then◌else◌}
use Rattle.std.specs.Int.{w32, from_be_bytes}
use Rattle.wire_base.specs.declared.talk.Piece.{Piece}
use Rattle.lumber_frame.specs.Talk.{out_bytes, in_bytes, out_before}
use Rattle.lumber_frame.specs.Window.{window_bytes, AreWindows}

-- the numbers of the acknowledgements that bytes begin with, up to the first frame that is none
abbrev pub acknowledgements : List ℕ → List ℕ
acknowledgements (version ∷ kind ∷ a ∷ b ∷ c ∷ d ∷ bytes) =
    if (version == 0x32) && (kind == 0x41) then from_be_bytes w32 (a ∷ b ∷ c ∷ d ∷ []) ∷ acknowledgements bytes else []
acknowledgements _ = []

-- how many windows end within the first `out` bytes
abbrev pub whole_within : List (List (List ℕ)) → ℕ → ℕ
whole_within [] out = 0
whole_within (window ∷ windows) out =
    if nat_le (length (window_bytes window)) out then suc (whole_within windows (out - length (window_bytes window))) else 0

-- the count of the window of this number, from 1 on; 0 if there is none
abbrev pub count_at : List (List (List ℕ)) → ℕ → ℕ
count_at windows zero = 0
count_at windows (suc before) = length (slice_index_or windows before [])

-- the window that an acknowledgement is given for, by its number from 1 on, and how many of its payloads it takes in
pub record Answer : Type 0 where
  pub window : ℕ
  pub number : ℕ

-- the greatest number that was given for a window, 0 if none was
abbrev pub greatest : ℕ → List Answer → ℕ
greatest window [] = 0
greatest window (answer ∷ others) =
    if answer.window == window then max answer.number (greatest window others) else greatest window others

-- of windows after `before` others, the number of the first that was not acknowledged in full, or of the last
abbrev pub oldest_open : List Answer → ℕ → List (List (List ℕ)) → ℕ
oldest_open given before [] = before
oldest_open given before (window ∷ windows) =
    if nat_le (length window) (greatest (suc before) given) then oldest_open given (suc before) windows else suc before

-- the window that an acknowledgement asks of after the answers that were given, if this many bytes were out; 0 for none
abbrev pub asked : List (List (List ℕ)) → List Answer → ℕ → ℕ
asked windows given out = oldest_open given 0 (take (whole_within windows out) windows)

-- the answers that were given, and after them those of acknowledgements up to the first fault; the first begins at this
-- place
abbrev pub answers : List (List (List ℕ)) → List Piece → List Answer → ℕ → List ℕ → List Answer
answers windows talk given place [] = given
answers windows talk given place (number ∷ numbers) =
    if nat_le number (count_at windows (asked windows given (out_before talk place)))
    then answers windows talk (given ++ record { window = asked windows given (out_before talk place); number = number } ∷ []) (place + 6) numbers
    else given

-- the acknowledged payloads of the windows, the first of which has this number
abbrev pub payloads_by : List Answer → ℕ → List (List (List ℕ)) → List (List ℕ)
payloads_by given window [] = []
payloads_by given window (payloads ∷ windows) = take (greatest window given) payloads ++ payloads_by given (suc window) windows

-- the talk acknowledges these payloads, by windows and places
pub record Acknowledges (talk : List Piece) (payloads : List (List ℕ)) : Type 0 where
  pub windows : List (List (List ℕ))
  pub sent : AreWindows (out_bytes talk) windows
  pub are : payloads ≡ payloads_by (answers windows talk [] 0 (acknowledgements (in_bytes talk))) 1 windows
