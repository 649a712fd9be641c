-- What goes out over a worker's links (Lumberjack v2; this project's profile): windows of parcels that it took, in the order
-- in which it took them, and each parcel in at most one frame of one link. The last window may be cut.
use Rattle.std.specs.Prelude.{◌≡◌, ℕ, ◌≤◌, List, ◌++◌, length}
use Rattle.std.specs.List.{AllByRecursion, flat_map}
use Rattle.lumber_client.specs.Exchange.{windows_of}
use Rattle.lumber_frame.specs.Talk.{out_bytes}
use Rattle.lumber_frame.specs.Window.{IsWindow, window_bytes}
use Rattle.outside.specs.Wires.{Outcome, Refused, Finished}
use Rattle.wire_base.specs.declared.parcel.Parcel.{Parcel}
use Rattle.wire_base.specs.declared.talk.Piece.{Piece}

-- no window has more than this many parcels
abbrev pub AreSmall : ℕ → List (List Parcel) → Type 0
AreSmall most windows = AllByRecursion (λ window. length window ≤ most) windows

pub record SendsOnly (most : ℕ) (taken : List Parcel) (talk : List Piece) : Type 0 where
  pub windows : List (List Parcel)
  pub each : AllByRecursion IsWindow (windows_of windows)
  pub small : AreSmall most windows
  pub before : List Parcel
  pub behind : List Parcel
  pub are : taken ≡ (before ++ flat_map (λ window. window) windows) ++ behind
  pub left : List ℕ
  pub sent : out_bytes talk ++ left ≡ flat_map window_bytes (windows_of windows)

-- so each finished link
abbrev pub IsSentOnly : ℕ → List Parcel → Outcome → Type 0
IsSentOnly most taken Refused = Unit {0}
IsSentOnly most taken (Finished talk faults idles) = SendsOnly most taken talk.pieces

abbrev pub AreSentOnly : ℕ → List Parcel → List Outcome → Type 0
AreSentOnly most taken outcomes = AllByRecursion (IsSentOnly most taken) outcomes
