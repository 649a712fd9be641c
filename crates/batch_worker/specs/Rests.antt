-- How long a worker rests after failures (Filebeat reference, Logstash output, `backoff.init` and `backoff.max`; the
-- lengths are this project's profile): a second, doubled at each further failure in a row, and at most a minute.
use Rattle.std.specs.Prelude.{ℕ, ◌+◌, ◌-◌, ◌*◌, ◌^◌, ◌<◌, min}
use Rattle.batch_worker.specs.declared.worker.TheConstants.{FIRST_REST, LONGEST_REST}
use Rattle.batch_worker.specs.Working.{Working}

-- after this many failures in a row, at least 1, in milliseconds
abbrev pub rest_after : ℕ → ℕ
rest_after failures = min LONGEST_REST (FIRST_REST * 2 ^ (failures - 1))

-- the moment at which the rest ends
abbrev pub rest_end : {L : Type 0} → Working L → ℕ
rest_end w = w.failed.0 + rest_after w.failures

-- there is a failure, and the rest has not ended
pub record IsResting {L : Type 0} (w : Working L) (now : ℕ) : Type 0 where
  pub failed : 0 < w.failures
  pub early : now < rest_end w
