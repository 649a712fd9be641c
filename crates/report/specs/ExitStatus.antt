-- The exit status of each end of a run (this project's profile).
use Rattle.std.specs.Prelude.{ℕ}
use Rattle.report.specs.declared.status.Status.{Status}
use Rattle.report.specs.declared.status.Status.TheVariants.{Done, Stopped, Usage, Settings, RegistryBad, DiskFault, FolderFault, Unreachable, OutFault, SourceFault, TooMany, NoNative, NoMemory, Unbuilt}

abbrev pub code_of : Status → ℕ
code_of Done = 0
code_of Stopped = 1
code_of Usage = 2
code_of (Settings fault) = 3
code_of (RegistryBad area at) = 4
code_of DiskFault = 5
code_of FolderFault = 6
code_of (Unreachable worker failures) = 7
code_of OutFault = 8
code_of SourceFault = 9
code_of (TooMany what path) = 10
code_of (NoNative path) = 11
code_of NoMemory = 12
code_of (Unbuilt what) = 13
