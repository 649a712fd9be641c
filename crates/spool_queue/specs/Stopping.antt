-- For private clauses: the status of a run that ended.
use Rattle.std.specs.Prelude.{ℕ, Result, Ok, Err}
use Rattle.spool_queue.specs.declared.spool_error.SpoolError.TheVariants as errors
use Rattle.spool_queue.specs.declared.status.SpoolStatus.{SpoolStatus}
use Rattle.spool_queue.specs.declared.status.SpoolStatus.TheVariants as status
use Rattle.spool_queue.specs.declared.stop.Stop.{Stop}
use Rattle.spool_queue.specs.declared.stop.Stop.TheVariants.{Source, Unreachable, Spool}

-- if this many lines were put
abbrev pub status_for : Stop → ℕ → SpoolStatus
status_for Source lines = status.SourceFault
status_for Unreachable lines = status.Unreachable
status_for (Spool (errors.Bad at)) lines = status.SpoolBad at
status_for (Spool errors.DiskFault) lines = status.DiskFault
status_for (Spool errors.TooLong) lines = status.TooLong lines
status_for (Spool errors.Full) lines = status.Full lines
status_for (Spool errors.Closed) lines = status.DiskFault
status_for (Spool errors.NoMemory) lines = status.NoMemory

abbrev pub status_after : {T : Type 0} → Result T Stop → ℕ → SpoolStatus
status_after (Ok done) lines = status.Done
status_after (Err stop) lines = status_for stop lines
