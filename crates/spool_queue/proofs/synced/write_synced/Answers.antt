use Rattle.std.proofs.Common.{length}
use Rattle.outside.specs.DiskImages.{Torn}
use Rattle.spool_queue.proofs.Crashes.{changed_and_synced}
use Rattle.spool_queue.proofs.Writes.{torn_by_nothing}
use Rattle.spool_queue.proofs.synced.write_synced.Goals as goal

pub returns-clause-each_moment : goal.returns-clause-each_moment
returns-clause-each_moment g c = λ only.
    changed_and_synced g.D.Disk.moment g.D.Disk.images_since _ _ _ _ _ _ _ (Torn c.args.at (length c.args.bytes.now)) (torn_by_nothing _ _) (g.met.D.Disk.only_now c.args.disk.now) only
    c.in_ok-write_at.ensures.time c.in_ok-write_at.ensures.images c.sync.ensures.time c.sync.ensures.images
