-- A peer that was silent (Filebeat reference, Logstash output, `timeout`; this project's profile): whole windows were sent, not all
-- of their payloads are acknowledged, the link was idle after what was sent last, and the clock gave two moments 30 seconds
-- apart.
use Rattle.std.specs.Prelude.{◌≡◌, ℕ, ◌+◌, ◌-◌, ◌<◌, ◌≤◌, true, List, ◌∷◌, ◌++◌, drop, length, flat_map, Option, Some, None}
use Rattle.std.specs.List.{AllByRecursion}
use Rattle.lumber_frame.specs.Acknowledged.{Acknowledges}
use Rattle.lumber_frame.specs.Talk.{out_bytes}
use Rattle.lumber_frame.specs.Window.{IsWindow, window_bytes}
use Rattle.outside.specs.Talks.{Talk}
use Rattle.spool_queue.specs.declared.limits.TheConstants.{TIMEOUT_MS}

-- whole windows were sent and nothing else, not all of their payloads are acknowledged, and the link was idle after the
-- last piece that was sent
pub record IsUnanswered (talk : Talk) : Type 0 where
  pub windows : List (List (List ℕ))
  pub each : AllByRecursion IsWindow windows
  pub sent : out_bytes talk.pieces ≡ flat_map window_bytes windows
  pub acknowledged : List (List ℕ)
  pub acknowledges : Acknowledges talk.pieces acknowledged
  pub fewer : length acknowledged < length (flat_map (λ window. window) windows)
  pub idled : talk.idled ≡ true

-- one of the moments is this many milliseconds or more after an earlier one
pub record LieApart (moments : List ℕ) (distance : ℕ) : Type 0 where
  pub before : List ℕ
  pub earlier : ℕ
  pub between : List ℕ
  pub later : ℕ
  pub behind : List ℕ
  pub are : moments ≡ before ++ earlier ∷ (between ++ later ∷ behind)
  pub apart : earlier + distance ≤ later

-- by the moments of a clock before a run and after it, the moments of the run; the last one before it is among them, since a
-- clock that gives it again adds nothing new
abbrev pub moments_since : List ℕ → List ℕ → List ℕ
moments_since before after = drop (length before - 1) after

-- if the clock's moments are known, two moments of the run lie the timeout apart
abbrev pub PassesTimeout : Option (List ℕ) → Option (List ℕ) → Type 0
PassesTimeout None after = Unit {0}
PassesTimeout (Some before) None = ⊥
PassesTimeout (Some before) (Some after) = LieApart (moments_since before after) TIMEOUT_MS
