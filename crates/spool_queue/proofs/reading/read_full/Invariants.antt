use Rattle.std.proofs.Common.{◌≡◌, ◌+◌, ◌-◌, ◌<◌, ◌≤◌, ℕ, List, Some, length, take, drop}
use Rattle.spool_queue.specs.OnlyRead.{IsOnlyRead}
use Rattle.wire_base.specs.Ranges.{IsPlace}
use Rattle.spool_queue.proofs.reading.read_full.Given as goal

-- the front of the buffer holds the bytes so far
abbrev pub invariant-pieces : goal.invariant-pieces
invariant-pieces g l = record {
  within : l.count ≤ length l.into;
  in_range : 0 < l.count → IsPlace (l.at + l.count);
  front : (bytes : List ℕ) → g.D.Disk.contents l.fn.disk ≡ Some bytes → take l.count l.into ≡ take l.count (drop l.at bytes);
  there : (bytes : List ℕ) → g.D.Disk.contents l.fn.disk ≡ Some bytes → l.count ≤ length (drop l.at bytes);
  only_read : IsOnlyRead g.D.Disk.contents g.D.Disk.images g.D.Disk.moment g.D.Disk.images_since g.D.Disk.faults l.fn.disk l.disk;
}

abbrev pub decreases-pieces : goal.decreases-pieces
decreases-pieces g l = length l.into - l.count
