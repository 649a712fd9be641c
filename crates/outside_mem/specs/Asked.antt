-- How often an object in memory failed because a list, or the talk of a link, asked for it (this project's profile).
-- Else it fails only when out of memory, and its faults are both counts together. Closed tails count with their folder,
-- finished links with their wire.
use Rattle.std.specs.Prelude.{ℕ}
use Rattle.outside_mem.specs.declared.disk.MemDisk.{MemDisk}
use Rattle.outside_mem.specs.declared.folder.MemFolder.{MemFolder}
use Rattle.outside_mem.specs.declared.sink.MemSink.{MemSink}
use Rattle.outside_mem.specs.declared.source.MemSource.{MemSource}
use Rattle.outside_mem.specs.declared.wire.MemWire.{MemWire}

abbrev pub source_asked : MemSource → ℕ
source_asked source = source.failures.asked

abbrev pub sink_asked : MemSink → ℕ
sink_asked sink = sink.failures.asked

abbrev pub folder_asked : MemFolder → ℕ
folder_asked folder = folder.failures.asked

abbrev pub wire_asked : MemWire → ℕ
wire_asked wire = wire.failures.asked

abbrev pub disk_asked : MemDisk → ℕ
disk_asked disk = disk.failures.asked
