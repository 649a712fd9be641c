-- What a spool is by all of its bytes (this project's profile). A spool of length 0 or 1 is empty. Else its records are read
-- up to the first gate that is there and is not open. It is bad at the gate of the first open record that is not of the
-- form or that may not follow the records before it, or at the place where a gate is absent.
use Rattle.std.specs.Prelude.{◌≡◌, ◌≢◌, ◌⊎◌, ℕ, ◌<◌, ◌≤◌, List, [], ◌∷◌, ◌++◌, length}
use Rattle.spool_queue.specs.Records.{Record, record_bytes}
use Rattle.spool_queue.specs.Log.{Log, log_bytes, AreRecords, MayFollow, outstanding}

-- these records come first, and then `rest`, which begins at `place`
pub record Reaches (spool : List ℕ) (log : Log) (place : ℕ) (rest : List ℕ) : Type 0 where
  pub each : AreRecords log
  pub bytes : spool ≡ log_bytes log ++ rest
  pub begins : length (log_bytes log) ≡ place

-- the records end at a gate that is there and is not open
pub record EndsAt (spool : List ℕ) (log : Log) (end : ℕ) : Type 0 where
  pub gate : ℕ
  pub rest : List ℕ
  pub reaches : Reaches spool log end (gate ∷ rest)
  pub closed : gate ≢ 0x7B

-- the bytes begin with a record that may follow
abbrev pub BeginsWithRecord : Log → List ℕ → Type 0
BeginsWithRecord log bytes = (one : Record) × (rest : List ℕ) × (bytes ≡ record_bytes one ++ rest) × MayFollow log one

-- after these records the gate is open and no record follows
pub record LacksRecord (spool : List ℕ) (log : Log) (at : ℕ) : Type 0 where
  pub rest : List ℕ
  pub reaches : Reaches spool log at (0x7B ∷ rest)
  pub no_record : ¬ BeginsWithRecord log (0x7B ∷ rest)

-- or the spool ends where a gate is to be
abbrev pub BreaksAt : List ℕ → Log → ℕ → Type 0
BreaksAt spool log at = LacksRecord spool log at ⊎ Reaches spool log at []

-- the payloads that are outstanding by these bytes
abbrev pub IsReadAs : List ℕ → List (List ℕ) → Type 0
IsReadAs spool list =
    ((length spool ≤ 1) × (list ≡ [])) ⊎ ((1 < length spool) × ((log : Log) × (end : ℕ) × EndsAt spool log end × (outstanding log ≡ list)))

abbrev pub IsBad : List ℕ → ℕ → Type 0
IsBad spool at = (1 < length spool) × ((log : Log) × BreaksAt spool log at)

-- the last gate of a spool with these bytes is at this place
abbrev pub IsLastGate : List ℕ → ℕ → Type 0
IsLastGate spool end = ((length spool ≤ 1) × (end ≡ 0)) ⊎ ((1 < length spool) × ((log : Log) × EndsAt spool log end))
