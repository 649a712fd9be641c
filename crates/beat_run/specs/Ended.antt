-- The status that a part of a run ended with, and the one that stands for what was met, and for what registry, scan and asking answered (this
-- project's profile).
use Rattle.std.specs.Prelude.{◌≡◌, ◌⊎◌, ℕ, List, slice_get, IfSome, Result, Ok, Err}
use Rattle.outside.specs.declared.failed.FolderError.{FolderError}
use Rattle.outside.specs.declared.failed.FolderError.TheVariants.{Failed as FolderFailed, NoMemory as FolderNoMemory}
use Rattle.prospect.specs.declared.listed.Listed.{Listed}
use Rattle.prospect.specs.declared.scan_error.ScanError.{ScanError}
use Rattle.prospect.specs.declared.scan_error.ScanError.TheVariants.{Failed as ScanFailed, NoMemory as ScanNoMemory, NoNative as ScanNoNative}
use Rattle.report.specs.declared.status.Status.{Status}
use Rattle.restart_join.specs.declared.join_error.JoinError.{JoinError}
use Rattle.restart_join.specs.declared.join_error.JoinError.TheVariants.{NoMemory as JoinNoMemory, TooMany as JoinTooMany}
use Rattle.report.specs.declared.status.Status.TheVariants.{DiskFault, Done, FolderFault, NoMemory, NoNative, RegistryBad, Stopped, TooMany, Unreachable}
use Rattle.run_steps.specs.declared.met.Met.{Met}
use Rattle.run_steps.specs.declared.met.Met.TheVariants as met
use Rattle.run_steps.specs.declared.registry_error.RegistryError.{RegistryError}
use Rattle.run_steps.specs.declared.registry_error.RegistryError.TheVariants as registry
use Rattle.wire_base.specs.declared.limits.Full.TheVariants.{Epochs}
use Rattle.beat_run.specs.declared.ending.Ending.{Ending}

abbrev pub ended : Result Ending Status → Status
ended (Ok ending) = ending.status
ended (Err status) = status

-- the file of the slot is named by its path, for which there may be no memory
abbrev pub StandsForMet : List Listed → ℕ → Met → Status → Type 0
StandsForMet listed attempts met.Done status = status ≡ Done
StandsForMet listed attempts met.Stopped status = status ≡ Stopped
StandsForMet listed attempts met.NoMemory status = status ≡ NoMemory
StandsForMet listed attempts met.DiskFault status = status ≡ DiskFault
StandsForMet listed attempts met.FolderFault status = status ≡ FolderFault
StandsForMet listed attempts (met.Unreachable worker) status = status ≡ Unreachable worker attempts
StandsForMet listed attempts (met.Epochs slot) status =
    (status ≡ NoMemory) ⊎ IfSome (slice_get listed slot.0) (λ one. status ≡ TooMany Epochs one.path)
StandsForMet listed attempts (met.NoNative slot) status =
    (status ≡ NoMemory) ⊎ IfSome (slice_get listed slot.0) (λ one. status ≡ NoNative one.path)

abbrev pub StandsForRegistry : RegistryError → Status → Type 0
StandsForRegistry (registry.Bad area at) status = status ≡ RegistryBad area at
StandsForRegistry registry.DiskFault status = status ≡ DiskFault
StandsForRegistry registry.NoMemory status = status ≡ NoMemory

abbrev pub StandsForScan : ScanError → Status → Type 0
StandsForScan ScanFailed status = status ≡ FolderFault
StandsForScan ScanNoMemory status = status ≡ NoMemory
StandsForScan (ScanNoNative path) status = status ≡ NoNative path

abbrev pub StandsForAsking : FolderError → Status → Type 0
StandsForAsking FolderFailed status = status ≡ FolderFault
StandsForAsking FolderNoMemory status = status ≡ NoMemory

abbrev pub StandsForJoin : JoinError → Status → Type 0
StandsForJoin (JoinTooMany what path) status = status ≡ TooMany what path
StandsForJoin JoinNoMemory status = status ≡ NoMemory
