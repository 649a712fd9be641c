use Rattle.std.proofs.Common.{subst, sym}
use Rattle.batch_worker.specs.Steps.{PostsOf, TakesOf}
use Rattle.batch_worker.specs.Working.{Working}
use Rattle.run_tests.proofs.tests.workers.rig.Rig.new.Goals as goal

pub invariant_of-result : goal.invariant_of-result
invariant_of-result g c =
    let begun = sym c.in-Ok.ensures.begun in
    record {
      puts = c.in_ok-queue.ensures.its_passes.0;
      takes = subst (λ (w : Working g.row.L.Denot). TakesOf c.in_ok-queue.queue.id w.take) begun c.in_ok-queue.ensures.its_passes.1;
      posts = subst (λ (w : Working g.row.L.Denot). PostsOf c.in_ok-desk.desk.id w.post) begun c.in_ok-desk.ensures.its_passes.0;
      collects = c.in_ok-desk.ensures.its_passes.1;
    }
