use Rattle.std.proofs.Common.{◌≤◌, ◌<◌, ◌-◌, ℕ, List, length, take, IsSome}
use Rattle.outside.specs.DiskImages.{LeavesOnly}
use Rattle.wire_base.specs.declared.numbers.TheConstants.{MAX_PLACE}
use Rattle.wire_base.specs.declared.row.Row.{Row}
use Rattle.ship_core.specs.Replay.{replay_on}
use Rattle.registry_store.specs.Appending.{HoldsOpened, IsOpenedWithSome}
use Rattle.registry_store.specs.Committing.{AreFewThroughout}
use Rattle.registry_store.proofs.records.append_all.Given as goal

abbrev pub invariant-records : goal.invariant-records
invariant-records g l = record {
  within : l.done ≤ length l.ops;
  gate : l.gate < MAX_PLACE;
  appended : (generation : ℕ) (rows : List Row) → HoldsOpened g.D.Disk.contents g.D.Disk.images l.fn.disk generation rows l.end → AreFewThroughout rows l.ops
      → HoldsOpened g.D.Disk.contents g.D.Disk.images l.disk generation (replay_on rows (take l.done l.ops)) l.gate;
  leaves : (generation : ℕ) (rows : List Row) → HoldsOpened g.D.Disk.contents g.D.Disk.images l.fn.disk generation rows l.end → AreFewThroughout rows l.ops
      → LeavesOnly g.D.Disk.moment g.D.Disk.images_since l.fn.disk l.disk (IsOpenedWithSome generation rows l.ops);
  told : IsSome (g.D.Disk.contents l.fn.disk) → IsSome (g.D.Disk.contents l.disk);
  faults : g.D.Disk.faults l.fn.disk ≤ g.D.Disk.faults l.disk;
}

abbrev pub decreases-records : goal.decreases-records
decreases-records g l = length l.ops - l.done
