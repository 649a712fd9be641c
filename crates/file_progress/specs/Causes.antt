-- Which status a look may end with, and what causes it (this project's profile). Only out of memory needs no cause.
use Rattle.std.specs.Prelude.{◌≡◌, ◌⊎◌, ℕ, List, Option}
use Rattle.event_tree.specs.declared.input_rule.InputRule.{InputRule}
use Rattle.outside.specs.Counts.{Rose}
use Rattle.outside.specs.Folders.{FolderHistory}
use Rattle.prospect.specs.ListedFiles.{EndsAs}
use Rattle.prospect.specs.declared.scan_error.ScanError.{ScanError}
use Rattle.prospect.specs.declared.scan_error.ScanError.TheVariants as scanning
use Rattle.registry_store.specs.declared.pick_error.PickError.{PickError}
use Rattle.registry_store.specs.declared.pick_error.PickError.TheVariants as picking
use Rattle.report.specs.declared.status.Status.{Status}
use Rattle.report.specs.declared.status.Status.TheVariants.{Done, DiskFault, FolderFault, NoMemory, NoNative, OutFault, RegistryBad, Settings, SourceFault}

-- reading the settings, by the source's count of faults
abbrev pub IsSettingsEnd : ℕ → ℕ → Status → Type 0
IsSettingsEnd before now SourceFault = Rose before now
IsSettingsEnd before now NoMemory = Unit {0}
IsSettingsEnd before now (Settings fault) = Unit {0}
IsSettingsEnd before now _ = ⊥

-- a scan, by the folder's count of faults
abbrev pub IsScanEnd : ℕ → ℕ → Status → Type 0
IsScanEnd before now FolderFault = Rose before now
IsScanEnd before now NoMemory = Unit {0}
IsScanEnd before now (NoNative path) = Unit {0}
IsScanEnd before now _ = ⊥

-- what a scan that found a file without native numbers has listed
abbrev pub ShowsScanEnd : List InputRule → FolderHistory → Status → Option FolderHistory → Type 0
ShowsScanEnd inputs told (NoNative path) after = EndsAs inputs told (scanning.NoNative path) after
ShowsScanEnd inputs told _ after = Unit {0}

abbrev pub StandsFor : ScanError → Status → Type 0
StandsFor scanning.Failed status = status ≡ FolderFault
StandsFor scanning.NoMemory status = status ≡ NoMemory
StandsFor (scanning.NoNative path) status = status ≡ NoNative path

abbrev pub StandsForPick : PickError → Status → Type 0
StandsForPick (picking.Bad area at) status = status ≡ RegistryBad area at
StandsForPick picking.DiskFault status = status ≡ DiskFault
StandsForPick picking.NoMemory status = status ≡ NoMemory

-- how often the objects have failed
pub record Faults : Type 0 where
  pub source : ℕ
  pub folder : ℕ
  pub area_a : ℕ
  pub area_b : ℕ

-- a look, before it is printed
abbrev pub IsLookEnd : Faults → Faults → Status → Type 0
IsLookEnd before now (Settings fault) = Unit {0}
IsLookEnd before now (RegistryBad area at) = Unit {0}
IsLookEnd before now DiskFault = Rose before.area_a now.area_a ⊎ Rose before.area_b now.area_b
IsLookEnd before now FolderFault = Rose before.folder now.folder
IsLookEnd before now SourceFault = Rose before.source now.source
IsLookEnd before now (NoNative path) = Unit {0}
IsLookEnd before now NoMemory = Unit {0}
IsLookEnd before now _ = ⊥

-- a count of faults before and after
pub record Count : Type 0 where
  pub before : ℕ
  pub now : ℕ

-- and with the printing, by the sink's count
abbrev pub IsEnd : Faults → Faults → Count → Status → Type 0
IsEnd before now out Done = Unit {0}
IsEnd before now out OutFault = Rose out.before out.now
IsEnd before now out status = IsLookEnd before now status

-- the scan found a file without native numbers
abbrev pub IsOfScan : Status → Type 0
IsOfScan (NoNative path) = Unit {0}
IsOfScan _ = ⊥
