-- What a run hit (this project's profile): which files it may name, after what the last steps are made, and after what a report is given.
use Rattle.std.specs.Prelude.{ℕ, ◌<◌}
use Rattle.run_steps.specs.declared.met.Met.{Met}
use Rattle.run_steps.specs.declared.met.Met.TheVariants.{DiskFault, Done, Epochs, FolderFault, NoMemory, NoNative, Stopped, Unreachable}

-- a file that it names is one of so many
abbrev pub IsMetOf : ℕ → Met → Type 0
IsMetOf count Done = Unit {0}
IsMetOf count Stopped = Unit {0}
IsMetOf count NoMemory = Unit {0}
IsMetOf count DiskFault = Unit {0}
IsMetOf count FolderFault = Unit {0}
IsMetOf count (Unreachable worker) = Unit {0}
IsMetOf count (Epochs slot) = slot.0 < count
IsMetOf count (NoNative slot) = slot.0 < count

-- after it the last steps are made
abbrev pub AreLeft : Met → Type 0
AreLeft Done = Unit {0}
AreLeft Stopped = Unit {0}
AreLeft NoMemory = ⊥
AreLeft DiskFault = ⊥
AreLeft FolderFault = Unit {0}
AreLeft (Unreachable worker) = Unit {0}
AreLeft (Epochs slot) = Unit {0}
AreLeft (NoNative slot) = Unit {0}

-- a run that hit it gives a report
abbrev pub IsTelling : Met → Type 0
IsTelling Done = Unit {0}
IsTelling Stopped = Unit {0}
IsTelling NoMemory = ⊥
IsTelling DiskFault = ⊥
IsTelling FolderFault = ⊥
IsTelling (Unreachable worker) = ⊥
IsTelling (Epochs slot) = ⊥
IsTelling (NoNative slot) = ⊥
