-- How a check may end (this project's profile).
use Rattle.std.specs.Prelude.{ℕ}
use Rattle.outside.specs.Counts.{Rose}
use Rattle.report.specs.ExitStatus.{code_of as status_code}
use Rattle.report.specs.declared.status.Status.{Status}
use Rattle.report.specs.declared.status.Status.TheVariants.{NoMemory, SourceFault}
use Rattle.findings.specs.declared.ending.Ending.{Ending}
use Rattle.findings.specs.declared.ending.Ending.TheVariants.{Refused, Unreachable, Unreadable, Well}

abbrev pub code_of : Ending → ℕ
code_of Well = 0
code_of Unreadable = 6
code_of Unreachable = 7
code_of (Refused status) = status_code status

-- all that was seen is reported
abbrev pub IsShown : Ending → Type 0
IsShown Well = Unit {0}
IsShown Unreadable = Unit {0}
IsShown Unreachable = Unit {0}
IsShown (Refused status) = ⊥

-- reading the settings, by the source's count of faults
abbrev pub IsSourceEnd : ℕ → ℕ → Status → Type 0
IsSourceEnd before now SourceFault = Rose before now
IsSourceEnd before now NoMemory = Unit {0}
IsSourceEnd before now _ = ⊥
