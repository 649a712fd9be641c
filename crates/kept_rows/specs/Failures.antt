-- The failures of a worker (Filebeat reference, Logstash output, `timeout` and `max_retries`; this project's profile): a
-- connection that failed, or a link that counted a fault, whose talk has a fault of the peer, or that timed out. Failures
-- in a row have moments of their own, and only the first of them may have a new acknowledgement.
use Rattle.std.specs.Prelude.{◌≡◌, ◌⊎◌, ℕ, ◌<◌, true, List, [], ◌∷◌, ◌++◌, length, flat_map}
use Rattle.std.specs.List.{AllByRecursion}
use Rattle.lumber_frame.specs.Acknowledged.{Acknowledges}
use Rattle.lumber_frame.specs.PeerFault.{HasPeerFault}
use Rattle.lumber_frame.specs.Talk.{out_bytes}
use Rattle.lumber_frame.specs.Window.{IsWindow, window_bytes}
use Rattle.outside.specs.Counts.{Rose}
use Rattle.outside.specs.Talks.{Talk}
use Rattle.outside.specs.Wires.{Outcome, Refused, Finished}
use Rattle.told_events.specs.Licence.{LieApart}

-- whole windows were sent and nothing else, not all of their payloads are acknowledged, and the link was idle after the
-- last piece that was sent
pub record IsUnanswered (talk : Talk) : Type 0 where
  pub windows : List (List (List ℕ))
  pub each : AllByRecursion IsWindow windows
  pub sent : out_bytes talk.pieces ≡ flat_map window_bytes windows
  pub acknowledged : List (List ℕ)
  pub acknowledges : Acknowledges talk.pieces acknowledged
  pub fewer : length acknowledged < length (flat_map (λ window. window) windows)
  pub idled : talk.idled ≡ true

-- two of the first moments are the timeout apart, and the failures after it have those that follow
pub record TimedOut (timeout : ℕ) (Later : List ℕ → Type 0) (talk : Talk) (moments : List ℕ) : Type 0 where
  pub unanswered : IsUnanswered talk
  pub own : List ℕ
  pub left : List ℕ
  pub moments_are : moments ≡ own ++ left
  pub apart : LieApart own timeout
  pub later : Later left

abbrev pub FailsThen : ℕ → (List ℕ → Type 0) → Outcome → List ℕ → Type 0
FailsThen timeout Later Refused moments = Later moments
FailsThen timeout Later (Finished talk faults idles) moments =
    ((Rose 0 faults ⊎ HasPeerFault talk.pieces) × Later moments) ⊎ TimedOut timeout Later talk moments

-- each of the outcomes is a failure, with moments of its own among these
abbrev pub AreFailures : ℕ → List Outcome → List ℕ → Type 0
AreFailures timeout [] moments = Unit {0}
AreFailures timeout (outcome ∷ outcomes) moments = FailsThen timeout (AreFailures timeout outcomes) outcome moments

abbrev pub AcknowledgesNothing : Outcome → Type 0
AcknowledgesNothing Refused = Unit {0}
AcknowledgesNothing (Finished talk faults idles) = Acknowledges talk.pieces []

abbrev pub OnlyTheFirstAcknowledges : List Outcome → Type 0
OnlyTheFirstAcknowledges [] = Unit {0}
OnlyTheFirstAcknowledges (first ∷ others) = AllByRecursion AcknowledgesNothing others

-- this many of the last outcomes of a worker are failures, by moments of this run that come after those of its earlier failures
pub record HasLastFailures (timeout attempts : ℕ) (moments : List ℕ) (outcomes : List Outcome) : Type 0 where
  pub earlier : List Outcome
  pub last : List Outcome
  pub are : outcomes ≡ earlier ++ last
  pub number : length last ≡ attempts
  pub nothing_new : OnlyTheFirstAcknowledges last
  pub failures : AreFailures timeout (earlier ++ last) moments
