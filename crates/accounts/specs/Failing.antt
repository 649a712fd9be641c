-- How a worker fails (Filebeat reference, Logstash output, `timeout` and `max_retries`; this project's profile): each outcome of its
-- wire since the run began is a failure, by moments of its own, and the last of them, as many as the worker counts, have no new
-- acknowledgement but at the first.
use Rattle.std.specs.Prelude.{◌≡◌, ◌⊎◌, ℕ, ◌<◌, ◌≤◌, All, Contains, List, [], ◌++◌, length, drop, Option, Some}
use Rattle.batch_worker.specs.Acknowledged.{AcknowledgeInAll}
use Rattle.batch_worker.specs.Seen.{Seen}
use Rattle.batch_worker.specs.Standing.{StandsFor}
use Rattle.batch_worker.specs.Working.{Working}
use Rattle.harvester.specs.Standing.{EndsAt}
use Rattle.kept_rows.specs.Failures.{AreFailures, OnlyTheFirstAcknowledges}
use Rattle.lumber_client.specs.Exchange.{payloads_of}
use Rattle.outside.specs.Counts.{IsAtEnd}
use Rattle.outside.specs.Talks.{Talk}
use Rattle.outside.specs.Wires.{Outcome}
use Rattle.wire_base.specs.declared.parcel.Parcel.{Parcel}

-- of all outcomes of the wire the worker's are those from this place on
pub record IsFailingSo {L : Type 0} (told : L → Option Talk) (timeout start : ℕ) (moments : List ℕ) (all : List Outcome) (worker : Working L) : Type 0 where
  -- what its talks acknowledged so far
  pub acknowledged : List Parcel
  pub stands : StandsFor told start worker (Some all) acknowledged
  -- the moments of its failures, and those that the clock gave after them
  pub used : List ℕ
  pub left : List ℕ
  pub moments_are : moments ≡ used ++ left
  pub failures : AreFailures timeout (drop start all) used
  -- as many of the last ones as it counts have nothing new after the first
  pub earlier : List Outcome
  pub last : List Outcome
  pub are : drop start all ≡ earlier ++ last
  pub number : worker.failures ≤ length last
  pub nothing_new : OnlyTheFirstAcknowledges last
  -- nor has the present link
  pub nothing_since : (worker.failures ≡ 0) ⊎ AcknowledgeInAll (drop start all) (payloads_of acknowledged)
  -- windows went out, and a byte was heard, after the moments of its failures
  pub outs : All (λ out. Contains left out.0) worker.outs
  pub heard : (worker.heard.0 ≡ 0) ⊎ Contains left worker.heard.0
  -- if the clock gave none since the last failure, the worker rests
  pub rests : left ≡ [] → (0 < worker.failures) × EndsAt moments worker.failed.0
  pub timeout_is : worker.timeout ≡ timeout

-- the same holds, or the wire's count of faults is at its end, from where on what was refused is not listed
pub record IsFailing {L : Type 0} (told : L → Option Talk) (timeout start : ℕ) (moments : List ℕ) (seen : Seen) (worker : Working L) : Type 0 where
  pub all : List Outcome
  pub tells : seen.outcomes ≡ Some all
  pub is : IsAtEnd seen.faults ⊎ IsFailingSo told timeout start moments all worker
