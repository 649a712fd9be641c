-- The faults of a transfer (this project's profile).
use Rattle.lumber_answers.specs.declared.fault.WriteFault.{WriteFault}
use Rattle.lumber_answers.specs.declared.fault.WriteFault.TheVariants as write
use Rattle.lumber_answers.specs.declared.fault.Fault.{Fault}
use Rattle.lumber_answers.specs.declared.fault.Fault.TheVariants.{Out, NoMemory}

abbrev pub fault_of : WriteFault → Fault
fault_of write.Out = Out
fault_of write.NoMemory = NoMemory
