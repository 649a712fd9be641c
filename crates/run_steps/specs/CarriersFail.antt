-- How the workers of a run fail (Filebeat reference, Logstash output, `timeout` and `max_retries`; this project's profile): by the
-- outcomes of their wires since the run began, and by the moments that the clock gave since then. It is said if these are known
-- as the run began. A worker that failed as often in a row as it may has no link, and the run ends.
use Rattle.std.specs.Prelude.{◌≡◌, ◌⊎◌, ℕ, ◌<◌, List, length, map, drop, take, slice_get, Option, Some, None, IfSome, is_some}
use Rattle.accounts.specs.Failing.{IsFailing}
use Rattle.kept_rows.specs.Failures.{HasLastFailures}
use Rattle.outside.specs.Counts.{IsAtEnd}
use Rattle.outside.specs.Wires.{Outcome}
use Rattle.rounds.specs.CarrierTurns.{seen_of}
use Rattle.rounds.specs.Pairs.{Pairs}
use Rattle.rounds.specs.Words.{LinkWords, WireWords}
use Rattle.rounds.specs.declared.carrier.Carrier.{Carrier}
use Rattle.run_steps.specs.MetIn.{HasTriesLeft, NoneFailed}
use Rattle.run_steps.specs.declared.met.Met.{Met}
use Rattle.run_steps.specs.declared.met.Met.TheVariants.{DiskFault, Done, Epochs, FolderFault, NoMemory, NoNative, Stopped, Unreachable}

-- how many outcomes of a wire are known; none if its outcomes are not
abbrev pub count_told : Option (List Outcome) → Option ℕ
count_told None = None
count_told (Some list) = Some (length list)

-- so of the first so many wires, which are those of the workers
abbrev pub counts_told : {W : Type 0} → WireWords W → ℕ → List W → List (Option ℕ)
counts_told {W} wires workers all = map (λ (w : W). count_told (wires.outcomes w)) (take workers all)

-- ---- between two steps

-- what is known of the clock, and the workers
pub record Sending (W L : Type 0) : Type 0 where
  pub moments : Option (List ℕ)
  pub carriers : List (Carrier W L)

abbrev pub sending : {W L : Type 0} → Option (List ℕ) → List (Carrier W L) → Sending W L
sending moments carriers = record { moments = moments; carriers = carriers }

module _ {W L : Type 0} (links : LinkWords L) (wires : WireWords W) (attempts timeout : ℕ) where
  -- by the outcomes from this place on
  abbrev pub FailsSince : List ℕ → Option ℕ → Carrier W L → Type 0
  FailsSince moments None carrier = Unit {0}
  FailsSince moments (Some start) carrier = IsFailing links.told timeout start moments (seen_of wires carrier.wire) carrier.worker

  pub record CarrierFails (moments : List ℕ) (start : Option ℕ) (carrier : Carrier W L) : Type 0 where
    pub fails : FailsSince moments start carrier
    pub tries : HasTriesLeft attempts carrier ⊎ (carrier.worker.link ≡ None)

  -- each of them, by the moments that the clock gave from this one on
  abbrev pub AreFailing : ℕ → List (Option ℕ) → Sending W L → Type 0
  AreFailing earlier starts now = IfSome now.moments (λ moments. (earlier < length moments) × Pairs (CarrierFails (drop earlier moments)) starts now.carriers)

-- if they fail this way before a step, none as often as it may, the same holds after it; a name, so that no search takes it apart
unfoldable pub FailOn : {W L : Type 0} → LinkWords L → WireWords W → ℕ → Sending W L → Sending W L → Type 0
FailOn links wires attempts before after = (timeout earlier : ℕ) (starts : List (Option ℕ)) → 0 < timeout → NoneFailed attempts before.carriers →
    AreFailing links wires attempts timeout earlier starts before → AreFailing links wires attempts timeout earlier starts after

-- ---- once rounds are over

-- no wire is touched, and a worker has a link if it had one
pub record KeepsLink {W L : Type 0} (old new : Carrier W L) : Type 0 where
  pub wire : new.wire ≡ old.wire
  pub linked : is_some new.worker.link ≡ is_some old.worker.link

unfoldable pub LinksStay : {W L : Type 0} → List (Carrier W L) → List (Carrier W L) → Type 0
LinksStay old new = Pairs KeepsLink old new

-- ---- as the run ends

-- the last outcomes, as many as this, from this place on are failures, or the wire's count of faults is at its end, from where on what was
-- refused is not listed
pub record HasFailedSince {W : Type 0} (wires : WireWords W) (attempts timeout : ℕ) (moments : List ℕ) (start : ℕ) (wire : W) : Type 0 where
  pub all : List Outcome
  pub tells : wires.outcomes wire ≡ Some all
  pub failures : IsAtEnd (wires.faults wire) ⊎ HasLastFailures timeout attempts moments (drop start all)

abbrev pub FailedWhereTold : {W : Type 0} → WireWords W → ℕ → ℕ → List ℕ → Option ℕ → W → Type 0
FailedWhereTold wires attempts timeout moments None wire = Unit {0}
FailedWhereTold wires attempts timeout moments (Some start) wire = HasFailedSince wires attempts timeout moments start wire

-- a worker that is called unreachable failed this way; if the wires had reported this many outcomes as the run began
module _ {W : Type 0} (wires : WireWords W) (attempts timeout earlier : ℕ) (starts : List (Option ℕ)) (moments : Option (List ℕ)) (all : List W) where
  abbrev pub HasFailedAt : ℕ → Type 0
  HasFailedAt worker = IfSome moments (λ list. (start : Option ℕ) (wire : W) → slice_get starts worker ≡ Some start → slice_get all worker ≡ Some wire →
      FailedWhereTold wires attempts timeout (drop earlier list) start wire)

  abbrev pub FailedAsMet : Met → Type 0
  FailedAsMet Done = Unit {0}
  FailedAsMet Stopped = Unit {0}
  FailedAsMet NoMemory = Unit {0}
  FailedAsMet DiskFault = Unit {0}
  FailedAsMet FolderFault = Unit {0}
  FailedAsMet (Unreachable worker) = HasFailedAt worker
  FailedAsMet (Epochs slot) = Unit {0}
  FailedAsMet (NoNative slot) = Unit {0}
