-- Windows in flight (Lumberjack v2): a window is in flight from its first byte until it is acknowledged in full. In a
-- talk with one window in flight no byte of a window is sent before all that was sent earlier was acknowledged.
use Rattle.std.specs.Prelude.{◌≡◌, ℕ, ◌<◌, ◌≤◌, List, [], ◌++◌, length, take}
use Rattle.std.specs.List.{flat_map}
use Rattle.wire_base.specs.declared.talk.Piece.{Piece}
use Rattle.lumber_frame.specs.Talk.{out_bytes, in_bytes}
use Rattle.lumber_frame.specs.Window.{window_bytes, AreWindows}
use Rattle.lumber_frame.specs.Acknowledged.{acknowledgements, answers, count_at, greatest}

-- each window after which more was sent was acknowledged in full
pub record AreEarlierInFull (talk : List Piece) : Type 0 where
  pub windows : List (List (List ℕ))
  pub sent : AreWindows (out_bytes talk) windows
  pub in_full : (window : ℕ) → window ≤ length windows → length (flat_map window_bytes (take window windows)) < length (out_bytes talk)
      → count_at windows window ≤ greatest window (answers windows talk [] 0 (acknowledgements (in_bytes talk)))

-- and the same held at each moment of the talk
pub record HasOneInFlight (talk : List Piece) : Type 0 where
  pub always : (front more : List Piece) → talk ≡ front ++ more → AreEarlierInFull front
