-- How a run begins (this project's profile): its words come first, then its spool is opened, and then it calls the other
-- objects.
use Rattle.std.specs.Prelude.{◌≡◌, ◌⊎◌, ℕ, ◌+◌, ◌*◌, List, length}
use Rattle.spool_queue.specs.declared.status.SpoolStatus.{SpoolStatus}
use Rattle.spool_queue.specs.declared.status.SpoolStatus.TheVariants.{DiskFault}
use Rattle.spool_queue.specs.Spool.{IsLastGate}

-- the objects of a run but its disk
pub record Others (R W K S : Type 0) : Type 0 where
  pub source : R
  pub wire : W
  pub clock : K
  pub out : S

abbrev pub others_of : {R W K S : Type 0} → R → W → K → S → Others R W K S
others_of source wire clock out = record { source = source; wire = wire; clock = clock; out = out }

-- the spool of these bytes was opened, and the run went on with so many bytes reserved for its payloads; or the opening
-- failed, and no other object was called
abbrev pub RunsOn : {R W K S : Type 0} → Others R W K S → Others R W K S → SpoolStatus → List ℕ → List (List ℕ) → (ℕ → Type 0) → Type 0
RunsOn before after status bytes list Run =
    ((status ≡ DiskFault) × (after ≡ before)) ⊎ ((end : ℕ) × IsLastGate bytes end × Run (end + 34 * length list))
