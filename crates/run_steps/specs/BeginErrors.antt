-- Why files could not all be begun (this project's profile): if some file failed before, that goes first, unless out of memory; and what
-- the cause that then ends the run.
use Rattle.std.specs.Prelude.{Bool, true, false}
use Rattle.run_steps.specs.declared.begin_error.BeginError.{BeginError}
use Rattle.run_steps.specs.declared.begin_error.BeginError.TheVariants.{FolderFault, NoMemory, NoNative}
use Rattle.run_steps.specs.declared.met.Met.{Met}
use Rattle.run_steps.specs.declared.met.Met.TheVariants as met

abbrev pub ended_behind : Bool → BeginError → BeginError
ended_behind false error = error
ended_behind true NoMemory = NoMemory
ended_behind true FolderFault = FolderFault
ended_behind true (NoNative slot) = FolderFault

abbrev pub met_of : BeginError → Met
met_of FolderFault = met.FolderFault
met_of NoMemory = met.NoMemory
met_of (NoNative slot) = met.NoNative slot
