use Rattle.std.proofs.Common.{length}
use Rattle.std.proofs.lemmas.Result.{on_ok_weaker}
use Rattle.spool_queue.proofs.Writes.{all_bytes, mid_bytes, once_gated, once_recorded}
use Rattle.spool_queue.proofs.appending.append.Goals as goal

pub returns-in_err-write_synced-clause-each_moment : goal.returns-in_err-write_synced-clause-each_moment
returns-in_err-write_synced-clause-each_moment g c = λ only front rest gate told sized closed.
    once_recorded g.D.Disk.moment g.D.Disk.images_since c.args.disk.now c.write_synced.new.disk (g.D.Disk.contents c.args.disk.now) front gate rest c.args.text.now c.args.end (length c.args.text.now) told sized closed (c.write_synced.ensures.each_moment only)

pub returns-clause-appended : goal.returns-clause-appended
returns-clause-appended g c = λ front rest gate told sized.
    on_ok_weaker c.write_synced-2.result
    (λ writes. all_bytes (g.D.Disk.contents c.args.disk.now) (g.D.Disk.contents c.write_synced.new.disk) (g.D.Disk.contents c.write_synced-2.new.disk) front gate rest c.args.text.now c.args.end told sized c.requires.some
    c.in_ok-write_synced.ensures.written writes) c.write_synced-2.ensures.written

pub returns-clause-each_moment : goal.returns-clause-each_moment
returns-clause-each_moment g c = λ only front rest gate told sized closed.
    let mid = mid_bytes (g.D.Disk.contents c.args.disk.now) (g.D.Disk.contents c.write_synced.new.disk) front gate rest c.args.text.now c.args.end told sized c.requires.some c.in_ok-write_synced.ensures.written in
    once_gated g.D.Disk.moment g.D.Disk.images_since c.args.disk.now c.write_synced.new.disk c.write_synced-2.new.disk (g.D.Disk.contents c.write_synced.new.disk) front gate rest c.args.text.now c.args.end mid sized
    (once_recorded g.D.Disk.moment g.D.Disk.images_since c.args.disk.now c.write_synced.new.disk (g.D.Disk.contents c.args.disk.now) front gate rest c.args.text.now c.args.end (length c.args.text.now) told sized closed (c.write_synced.ensures.each_moment only))
    (c.write_synced-2.ensures.each_moment c.in_ok-write_synced.ensures.durable)
