-- What stands in the sink once a run has printed.
use Rattle.std.proofs.Common.{ℕ, List, Option, Some, None, Ok, Err, IfSome}
use Rattle.outside.specs.declared.failed.Failed.{Failed}
use Rattle.report.specs.Report.{status_bytes}
use Rattle.report.specs.Writing.{WritesAll}
use Rattle.report.specs.declared.status.Status.{Status}
use Rattle.report.specs.declared.status.Status.TheVariants.{Done, Stopped, Usage, Settings as SettingsFault, RegistryBad, DiskFault, FolderFault, Unreachable, OutFault, SourceFault, TooMany, NoNative, NoMemory, Unbuilt}
use Rattle.beat_run.specs.Ends.{IsRunEnd}
use Rattle.beat_run.specs.Printed.{HoldsFront, IsPrintable, IsPrinted}

-- the status line, or a front of it where the sink failed
pub status_printed : (old : Option (List ℕ)) (status : Status) (after : Option (List ℕ)) → IsRunEnd status →
    WritesAll old (status_bytes status) (Ok tt) after → IfSome old (λ written. IsPrinted written after status)
status_printed None status after ends writes = tt
status_printed (Some written) Done after ends writes = absurd ends
status_printed (Some written) Stopped after ends writes = absurd ends
status_printed (Some written) Usage after ends writes = writes
status_printed (Some written) (SettingsFault fault) after ends writes = writes
status_printed (Some written) (RegistryBad area at) after ends writes = writes
status_printed (Some written) DiskFault after ends writes = writes
status_printed (Some written) FolderFault after ends writes = writes
status_printed (Some written) (Unreachable worker failures) after ends writes = writes
status_printed (Some written) OutFault after ends writes = absurd ends
status_printed (Some written) SourceFault after ends writes = writes
status_printed (Some written) (TooMany what path) after ends writes = writes
status_printed (Some written) (NoNative path) after ends writes = writes
status_printed (Some written) NoMemory after ends writes = writes
status_printed (Some written) (Unbuilt what) after ends writes = writes

pub front_printed : (old : Option (List ℕ)) (text : List ℕ) (failed : Failed) (after : Option (List ℕ)) → IsPrintable text →
    WritesAll old text (Err failed) after → IfSome old (λ written. HoldsFront written after)
front_printed None text failed after printable writes = tt
front_printed (Some written) text failed after printable writes =
    record { text = text; printable = printable; count = writes.0; held = writes.1 }
