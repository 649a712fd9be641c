use Rattle.std.proofs.Common.{None}
use Rattle.batch_worker.specs.Seen.{seen}
use Rattle.run_tests.proofs.Passes.{still_posts, still_takes}
use Rattle.run_tests.proofs.tests.workers.rig.Rig.hand_on.Goals as goal

pub invariant_of-self : goal.invariant_of-self
invariant_of-self g c =
    let s = seen None 0 0 0 in
    let rig = c.args.self.now in
    let keeps = (c.hand_on.ensures.goes s).keeps in
    record {
      puts = rig.puts;
      takes = still_takes _ _ s s rig.worker c.hand_on.new.self rig.queue.id keeps rig.takes;
      posts = still_posts _ _ s s rig.worker c.hand_on.new.self rig.desk.id keeps rig.posts;
      collects = rig.collects;
    }
