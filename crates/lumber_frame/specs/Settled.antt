-- A talk that owes nothing (Lumberjack v2): whole windows were sent and nothing else, whole acknowledgements were
-- received and nothing else, none of them a fault, and the greatest number that was given for a window is its count.
use Rattle.std.specs.Prelude.{◌≡◌, ℕ, ◌<◌, ◌^◌, List, [], length}
use Rattle.std.specs.List.{AllByRecursion, flat_map}
use Rattle.wire_base.specs.declared.talk.Piece.{Piece}
use Rattle.lumber_frame.specs.declared.frame.Frame.TheVariants.{Ack}
use Rattle.lumber_frame.specs.Frame.{frame_bytes}
use Rattle.lumber_frame.specs.Talk.{out_bytes, in_bytes}
use Rattle.lumber_frame.specs.Window.{IsWindow, window_bytes}
use Rattle.lumber_frame.specs.Acknowledged.{answers, count_at, greatest}

-- the bytes of acknowledgements of these numbers, one after another
abbrev pub ack_bytes : List ℕ → List ℕ
ack_bytes numbers = flat_map (λ number. frame_bytes (Ack number)) numbers

-- these windows were sent, and each was acknowledged in full
pub record IsSettled (talk : List Piece) (windows : List (List (List ℕ))) : Type 0 where
  pub each : AllByRecursion IsWindow windows
  pub sent : out_bytes talk ≡ flat_map window_bytes windows
  pub numbers : List ℕ
  pub small : AllByRecursion (λ number. number < 2 ^ 32) numbers
  pub received : in_bytes talk ≡ ack_bytes numbers
  pub faultless : length (answers windows talk [] 0 numbers) ≡ length numbers
  pub in_full : (window : ℕ) → greatest window (answers windows talk [] 0 numbers) ≡ count_at windows window
