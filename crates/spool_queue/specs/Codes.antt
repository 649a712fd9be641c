-- The exit statuses (this project's profile).
use Rattle.std.specs.Prelude.{ℕ}
use Rattle.spool_queue.specs.declared.status.SpoolStatus.{SpoolStatus}
use Rattle.spool_queue.specs.declared.status.SpoolStatus.TheVariants.{Done, Usage, SourceFault, SpoolBad, DiskFault, Full, Unreachable, OutFault, TooLong, NoMemory}

abbrev pub status_code : SpoolStatus → ℕ
status_code Done = 0
status_code Usage = 2
status_code SourceFault = 3
status_code (SpoolBad at) = 4
status_code DiskFault = 5
status_code (Full line) = 6
status_code Unreachable = 7
status_code OutFault = 8
status_code (TooLong line) = 9
status_code NoMemory = 12
