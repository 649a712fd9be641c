-- When a run has to be done (this project's profile): its arguments are the command's, its spool can be read, no count of faults
-- rises, each line is put within the limits, and the peer sends nothing but acknowledgements within their windows, in time as
-- far as the clock's moments are known. Then it ends with `Done`, or out of memory.
use Rattle.std.specs.Prelude.{◌≡◌, ◌⊎◌, ℕ, ◌+◌, ◌*◌, List, length, Option, Some, None}
use Rattle.outside.specs.Counts.{Rose}
use Rattle.outside.specs.Wires.{Outcome}
use Rattle.outside.specs.declared.clock.Clock.{Ghosts as ClockGhosts}
use Rattle.outside.specs.declared.disk.Disk.{Ghosts as DiskGhosts}
use Rattle.outside.specs.declared.sink.Sink.{Ghosts as SinkGhosts}
use Rattle.outside.specs.declared.source.Source.{Ghosts as SourceGhosts}
use Rattle.outside.specs.declared.wire.Wire.{Ghosts as WireGhosts}
use Rattle.spool_queue.specs.declared.status.SpoolStatus.{SpoolStatus}
use Rattle.spool_queue.specs.declared.status.SpoolStatus.TheVariants.{DiskFault, Done, NoMemory, SpoolBad}
use Rattle.spool_queue.specs.Lines.{lines_of, refusal_of}
use Rattle.spool_queue.specs.Running.{Others}
use Rattle.spool_queue.specs.Sent.{PeerFails}
use Rattle.spool_queue.specs.Silence.{PassesTimeout}
use Rattle.spool_queue.specs.Spool.{IsLastGate, IsReadAs}
use Rattle.spool_queue.specs.Words.{IsCommand, IsPut, IsSend}

-- a run that could not open its spool
abbrev pub IsRefusedAt : ℕ → SpoolStatus → Type 0
IsRefusedAt at status = (status ≡ SpoolBad at) ⊎ (status ≡ DiskFault)

-- ---- what a run is given, and what shows of its objects

-- its arguments, what its source has to give, and what its disk holds
pub record RunCall : Type 0 where
  pub words : List (List ℕ)
  pub source : Option (List ℕ)
  pub contents : Option (List ℕ)

abbrev pub run_call : List (List ℕ) → Option (List ℕ) → Option (List ℕ) → RunCall
run_call words source contents = record { words = words; source = source; contents = contents }

pub record RunSigns : Type 0 where
  pub source_faults : ℕ
  pub disk_faults : ℕ
  pub wire_faults : ℕ
  pub wire_idles : ℕ
  pub sink_faults : ℕ
  pub outcomes : Option (List Outcome)
  pub moments : Option (List ℕ)

abbrev pub signs_of : {R W L D K S : Type 0} → SourceGhosts R → WireGhosts W L → DiskGhosts D → ClockGhosts K → SinkGhosts S → Others R W K S → D → RunSigns
signs_of source wire disk clock sink others on = record {
  source_faults = source.faults others.source;
  disk_faults = disk.faults on;
  wire_faults = wire.faults others.wire;
  wire_idles = wire.idles others.wire;
  sink_faults = sink.faults others.out;
  outcomes = wire.outcomes others.wire;
  moments = clock.moments others.clock;
}

-- ---- a run that nothing troubles

-- the disk's bytes are known and are a spool
pub record TellsSpool (contents : Option (List ℕ)) : Type 0 where
  pub bytes : List ℕ
  pub list : List (List ℕ)
  pub tells : contents ≡ Some bytes
  pub reads : IsReadAs bytes list

-- what the source gives is known, and each line of it is put after these payloads
pub record FitsAll (source : Option (List ℕ)) (bytes : List ℕ) (list : List (List ℕ)) : Type 0 where
  pub given : List ℕ
  pub tells : source ≡ Some given
  pub fits : (end : ℕ) → IsLastGate bytes end → refusal_of (end + 34 * length list) 0 (lines_of given) ≡ None

-- the wire's outcomes are known, the talk of its one link has no peer's fault, and it was not idle, or no two moments lie the timeout apart
pub record IsServed (before now : RunSigns) : Type 0 where
  pub faultless : ¬ (PeerFails before.outcomes now.outcomes)
  pub in_time : (¬ (Rose before.wire_idles now.wire_idles)) ⊎ (¬ (PassesTimeout before.moments now.moments))

pub record IsUntroubled (call : RunCall) (before now : RunSigns) : Type 0 where
  pub words : IsCommand call.words
  pub spool : TellsSpool call.contents
  pub source : ¬ (Rose before.source_faults now.source_faults)
  pub disk : ¬ (Rose before.disk_faults now.disk_faults)
  pub wire : ¬ (Rose before.wire_faults now.wire_faults)
  pub sink : ¬ (Rose before.sink_faults now.sink_faults)
  pub fits : IsPut call.words → FitsAll call.source spool.bytes spool.list
  pub served : IsSend call.words → IsServed before now

-- how it ends then
abbrev pub IsUntroubledEnd : SpoolStatus → Type 0
IsUntroubledEnd Done = Unit {0}
IsUntroubledEnd NoMemory = Unit {0}
IsUntroubledEnd _ = ⊥
