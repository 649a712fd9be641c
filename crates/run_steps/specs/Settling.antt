-- What the last steps of a run meet (this project's profile): out of memory, or a disk's fault.
use Rattle.std.specs.Prelude.{◌≡◌, ◌⊎◌, true, false, Option, Some, None}
use Rattle.outside.specs.Counts.{Rose}
use Rattle.rounds.specs.Words.{DiskWords}
use Rattle.rounds.specs.declared.answer.Round.{Round}
use Rattle.run_steps.specs.declared.met.Met.{Met}
use Rattle.run_steps.specs.declared.met.Met.TheVariants.{DiskFault, Done, Epochs, FolderFault, NoMemory, NoNative, Stopped, Unreachable}

-- the areas before and now
pub record Written (D : Type 0) : Type 0 where
  pub a : D
  pub b : D
  pub new_a : D
  pub new_b : D

abbrev pub IsMetByStoring : {D : Type 0} → DiskWords D → Written D → Met → Type 0
IsMetByStoring disks written NoMemory = Unit {0}
IsMetByStoring disks written DiskFault = Rose (disks.faults written.a) (disks.faults written.new_a) ⊎ Rose (disks.faults written.b) (disks.faults written.new_b)
IsMetByStoring disks written Done = ⊥
IsMetByStoring disks written Stopped = ⊥
IsMetByStoring disks written FolderFault = ⊥
IsMetByStoring disks written (Unreachable worker) = ⊥
IsMetByStoring disks written (Epochs slot) = ⊥
IsMetByStoring disks written (NoNative slot) = ⊥

-- what is made of the keeper's turns
abbrev pub IsStoredAs : Round → Option Met → Type 0
IsStoredAs round (Some NoMemory) = round.memory ≡ true
IsStoredAs round (Some DiskFault) = (round.memory ≡ false) × (round.disk ≡ true)
IsStoredAs round (Some Done) = ⊥
IsStoredAs round (Some Stopped) = ⊥
IsStoredAs round (Some FolderFault) = ⊥
IsStoredAs round (Some (Unreachable worker)) = ⊥
IsStoredAs round (Some (Epochs slot)) = ⊥
IsStoredAs round (Some (NoNative slot)) = ⊥
IsStoredAs round None = (round.memory ≡ false) × (round.disk ≡ false)
