-- Records in their order, each after those before it, and what they leave (this project's profile).
use Rattle.std.specs.Prelude.{ℕ, ◌<◌, ◌≤◌, List, [], ◌∷◌, ◌++◌, length, drop}
use Rattle.spool_queue.specs.declared.limits.TheConstants.{MAX_EVENT_BYTES}
use Rattle.spool_queue.specs.Records.{Record, Event, Settlement, record_bytes}

pub data Log : Type 0 where
  Empty : Log
  Then : Log → Record → Log

abbrev pub log_bytes : Log → List ℕ
log_bytes Empty = []
log_bytes (Then log one) = log_bytes log ++ record_bytes one

-- the payloads of the events, in their order
abbrev pub payloads : Log → List (List ℕ)
payloads Empty = []
payloads (Then log (Event payload)) = payloads log ++ payload ∷ []
payloads (Then log (Settlement count)) = payloads log

-- how many events are settled, from the front: the number of the last settlement, or 0
abbrev pub settled : Log → ℕ
settled Empty = 0
settled (Then log (Event payload)) = settled log
settled (Then log (Settlement count)) = count

abbrev pub outstanding : Log → List (List ℕ)
outstanding log = drop (settled log) (payloads log)

-- a payload is not too long, and a settled number is above the one before it and not above the events before it
abbrev pub MayFollow : Log → Record → Type 0
MayFollow log (Event payload) = length payload ≤ MAX_EVENT_BYTES
MayFollow log (Settlement count) = (settled log < count) × (count ≤ length (payloads log))

abbrev pub AreRecords : Log → Type 0
AreRecords Empty = Unit {0}
AreRecords (Then log one) = AreRecords log × MayFollow log one
