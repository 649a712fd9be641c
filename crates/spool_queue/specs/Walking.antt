-- For private clauses: a walk over the records of a spool.
use Rattle.std.specs.Prelude.{◌≡◌, ◌≢◌, ℕ, ◌+◌, ◌<◌, ◌≤◌, ◌^◌, ◌⊎◌, List, [], ◌∷◌, length, take, drop}
use Rattle.spool_queue.specs.declared.limits.TheConstants.{MAX_EVENT_BYTES}
use Rattle.spool_queue.specs.declared.head.Head.{Head}
use Rattle.spool_queue.specs.declared.head.Head.TheVariants as heads
use Rattle.spool_queue.specs.declared.walk.Walk.{Walk}
use Rattle.spool_queue.specs.declared.walk.Step.{Step}
use Rattle.spool_queue.specs.declared.walk.Step.TheVariants as steps
use Rattle.spool_queue.specs.Log.{Log, Then, payloads, settled}
use Rattle.spool_queue.specs.Records.{Event, Settlement, head_bytes}
use Rattle.spool_queue.specs.Spool.{BreaksAt, EndsAt, Reaches}

-- no head of an event and none of a settlement
abbrev pub IsNoHead : List ℕ → Type 0
IsNoHead bytes = (size kind : ℕ) → size < 10 ^ 10 → (kind ≡ 0x65) ⊎ (kind ≡ 0x73) → bytes ≡ head_bytes size kind → ⊥

-- what is at a gate, by the first thirteen bytes from the gate on
abbrev pub IsHeadOf : Head → List ℕ → Type 0
IsHeadOf heads.Absent bytes = bytes ≡ []
IsHeadOf heads.Closed bytes = (gate : ℕ) × (rest : List ℕ) × (bytes ≡ gate ∷ rest) × (gate ≢ 0x7B)
IsHeadOf heads.Broken bytes = (rest : List ℕ) × (bytes ≡ 0x7B ∷ rest) × IsNoHead bytes
IsHeadOf (heads.Event size) bytes = (size < 10 ^ 10) × (bytes ≡ head_bytes size 0x65)
IsHeadOf (heads.Settlement size) bytes = (size < 10 ^ 10) × (bytes ≡ head_bytes size 0x73)

-- the records up to the walk's place are these, and it has counted them
pub record IsWalkOf (bytes : List ℕ) (walk : Walk) (log : Log) : Type 0 where
  pub reaches : Reaches bytes log walk.place (drop walk.place bytes)
  pub events : length (payloads log) ≡ walk.events
  pub settlements : settled log ≡ walk.settled

-- what one step of a walk found after these records
abbrev pub IsStepOf : List ℕ → Log → Walk → Walk → Step → Type 0
IsStepOf bytes log before after (steps.Event size) = IsWalkOf bytes after (Then log (Event (take size (drop (before.place + 13) bytes)))) × (length (take size (drop (before.place + 13) bytes)) ≡ size)
IsStepOf bytes log before after steps.Settlement = (count : ℕ) × IsWalkOf bytes after (Then log (Settlement count))
IsStepOf bytes log before after steps.Closed = EndsAt bytes log after.place × (after ≡ before)
IsStepOf bytes log before after steps.Bad = BreaksAt bytes log after.place × (after ≡ before)

-- a walk went on if it passed a record, and else is where it was
abbrev pub GoesOn : Walk → Walk → Step → Type 0
GoesOn before after (steps.Event size) = (after.place ≡ before.place + 14 + size) × (after.events ≡ before.events + 1) × (size ≤ MAX_EVENT_BYTES)
GoesOn before after steps.Settlement = (before.place < after.place) × (after.events ≡ before.events)
GoesOn before after steps.Closed = after ≡ before
GoesOn before after steps.Bad = after ≡ before
