-- How a run over a container log ends (this project's profile).
use Rattle.std.specs.Prelude.{◌≡◌, ℕ, List, Option, Some, None}
use Rattle.outside.specs.Counts.{Rose}
use Rattle.container_lines.specs.Output.{HasAll, HasFront}
use Rattle.container_lines.specs.declared.fault.Fault.{Fault}
use Rattle.container_lines.specs.declared.fault.Fault.TheVariants as fault
use Rattle.container_lines.specs.declared.status.BadLines.{BadLines}
use Rattle.container_lines.specs.declared.status.ContainerStatus.{ContainerStatus}
use Rattle.container_lines.specs.declared.status.ContainerStatus.TheVariants.{Done, Usage, SourceFault, OutFault, NoMemory}
use Rattle.container_lines.specs.declared.status.ContainerStatus.TheVariants as status

-- the exit status of the program
abbrev pub code_of : ContainerStatus → ℕ
code_of Done = 0
code_of Usage = 2
code_of SourceFault = 3
code_of (status.BadLines first count) = 4
code_of OutFault = 5
code_of NoMemory = 12

-- the status of a run that a fault ended
abbrev pub faulty_status : Fault → ContainerStatus
faulty_status fault.Source = SourceFault
faulty_status fault.Out = OutFault
faulty_status fault.NoMemory = NoMemory

-- counts of faults of a source and of a sink, before and after a call
pub record Faults : Type 0 where
  pub source_before : ℕ
  pub source_now : ℕ
  pub sink_before : ℕ
  pub sink_now : ℕ

-- the fault comes only if that count rose
abbrev pub IsCaused : Faults → Fault → Type 0
IsCaused counts fault.Source = Rose counts.source_before counts.source_now
IsCaused counts fault.Out = Rose counts.sink_before counts.sink_now
IsCaused counts fault.NoMemory = Unit {0}

-- the same of a call that reads no source
abbrev pub IsCausedByOutput : ℕ → ℕ → Fault → Type 0
IsCausedByOutput before now fault.Source = ⊥
IsCausedByOutput before now fault.Out = Rose before now
IsCausedByOutput before now fault.NoMemory = Unit {0}

-- the same of a status
abbrev pub IsCausedStatus : Faults → ContainerStatus → Type 0
IsCausedStatus counts Done = Unit {0}
IsCausedStatus counts Usage = Unit {0}
IsCausedStatus counts SourceFault = Rose counts.source_before counts.source_now
IsCausedStatus counts (status.BadLines first count) = Unit {0}
IsCausedStatus counts OutFault = Rose counts.sink_before counts.sink_now
IsCausedStatus counts NoMemory = Unit {0}

-- the run read its source to the end
abbrev pub IsAtEnd : ContainerStatus → Type 0
IsAtEnd Done = Unit {0}
IsAtEnd Usage = ⊥
IsAtEnd SourceFault = ⊥
IsAtEnd (status.BadLines first count) = Unit {0}
IsAtEnd OutFault = ⊥
IsAtEnd NoMemory = ⊥

-- a run that read its source to the end says so of the lines of no format
abbrev pub IsByLines : Option BadLines → ContainerStatus → Type 0
IsByLines bad Done = bad ≡ None
IsByLines bad Usage = Unit {0}
IsByLines bad SourceFault = Unit {0}
IsByLines bad (status.BadLines first count) = bad ≡ Some (record { first = first; count = count })
IsByLines bad OutFault = Unit {0}
IsByLines bad NoMemory = Unit {0}

-- a run that read its source to the end has written all of the text, one that asked for nothing none of it, each other a
-- front of it
abbrev pub Writes : ContainerStatus → Option (List ℕ) → List ℕ → Option (List ℕ) → Type 0
Writes Done before text written = HasAll before text written
Writes Usage before text written = written ≡ before
Writes SourceFault before text written = HasFront before text written
Writes (status.BadLines first count) before text written = HasAll before text written
Writes OutFault before text written = HasFront before text written
Writes NoMemory before text written = HasFront before text written
