-- Exit statuses of the receiver (this project's profile).
use Rattle.std.specs.Prelude.{ℕ}
use Rattle.lumber_server.specs.declared.status.SinkStatus.{SinkStatus}
use Rattle.lumber_server.specs.declared.status.SinkStatus.TheVariants.{Done, Stopped, Usage, OutFault, PortFault, NoMemory}

abbrev pub status_code : SinkStatus → ℕ
status_code Done = 0
status_code Stopped = 1
status_code Usage = 2
status_code OutFault = 3
status_code PortFault = 4
status_code NoMemory = 12
