use Rattle.std.proofs.Common.{◌≡◌, ◌-◌, ℕ, List, Some}
use Rattle.wire_base.specs.declared.numbers.TheConstants.{MAX_PLACE}
use Rattle.spool_queue.specs.Log.{Log}
use Rattle.spool_queue.specs.OnlyRead.{IsOnlyRead}
use Rattle.spool_queue.specs.Walking.{IsWalkOf}
use Rattle.spool_queue.proofs.walk.Walk.pass_all.Given as goal

-- the records so far were passed, and the disk was only read
abbrev pub invariant-records : goal.invariant-records
invariant-records g l = record {
  walked : (bytes : List ℕ) (log : Log) → g.D.Disk.contents l.fn.disk ≡ Some bytes → IsWalkOf bytes l.fn.self log → (now : Log) × IsWalkOf bytes l.self now;
  only_read : IsOnlyRead g.D.Disk.contents g.D.Disk.images g.D.Disk.moment g.D.Disk.images_since g.D.Disk.faults l.fn.disk l.disk;
}

abbrev pub decreases-records : goal.decreases-records
decreases-records g l = MAX_PLACE - l.self.place
