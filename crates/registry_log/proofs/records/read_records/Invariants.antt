use Rattle.std.proofs.Common.{◌≡◌, ◌≤◌, ◌-◌, ℕ, List, Some, length}
use Rattle.wire_base.specs.declared.numbers.TheConstants.{MAX_PLACE}
use Rattle.registry_log.specs.OnlyRead.{IsOnlyRead}
use Rattle.registry_log.specs.RecordReading.{IsReadUpTo}
use Rattle.registry_log.specs.Stretch.{IsStretchOf}
use Rattle.registry_log.proofs.records.read_records.Given as goal

-- the records so far were read, and the disk was only read
abbrev pub invariant-records : goal.invariant-records
invariant-records g l = record {
  reads : (area : List ℕ) (generation : ℕ) → g.D.Disk.contents l.fn.disk ≡ Some area → IsStretchOf area l.fn.stretch → IsReadUpTo area generation l.fn.stretch.place l.fn.rows → IsStretchOf area l.stretch × IsReadUpTo area generation l.stretch.place l.rows;
  within : length l.fn.rows ≤ 65_536 → length l.rows ≤ 65_536;
  only_read : IsOnlyRead g.D.Disk.contents g.D.Disk.images g.D.Disk.moment g.D.Disk.images_since g.D.Disk.faults l.fn.disk l.disk;
}

abbrev pub decreases-records : goal.decreases-records
decreases-records g l = MAX_PLACE - l.stretch.place
