use Rattle.std.proofs.Common.{◌≡◌, ◌+◌, ◌-◌, ◌++◌, ℕ, List, Some, drop, vec_len}
use Rattle.wire_base.specs.Ranges.{IsPlace}
use Rattle.registry_log.specs.OnlyRead.{IsOnlyRead}
use Rattle.registry_log.specs.RecordReading.{IsFront}
use Rattle.registry_log.proofs.stretch.read_up_to.Given as goal

-- what was read so far follows what was there, and the disk was only read
abbrev pub invariant-pieces : goal.invariant-pieces
invariant-pieces g l = record {
  in_range : IsPlace (l.place + vec_len l.bytes);
  goes_on : (more : List ℕ) × (l.bytes.items ≡ l.fn.bytes.items ++ more);
  of_the_area : (area : List ℕ) → g.D.Disk.contents l.fn.disk ≡ Some area → IsFront l.fn.bytes.items (drop l.place area) → IsFront l.bytes.items (drop l.place area);
  only_read : IsOnlyRead g.D.Disk.contents g.D.Disk.images g.D.Disk.moment g.D.Disk.images_since g.D.Disk.faults l.fn.disk l.disk;
}

abbrev pub decreases-pieces : goal.decreases-pieces
decreases-pieces g l = l.wanted - vec_len l.bytes
