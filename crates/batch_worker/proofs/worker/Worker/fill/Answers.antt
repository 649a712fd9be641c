use Rattle.std.proofs.Common.{sym, subst}
use Rattle.batch_worker.specs.Keeping.{WorkerGoes}
use Rattle.batch_worker.specs.Working.{Working}
use Rattle.batch_worker.proofs.Stepping.{filling_begins, filling_goes_on}
use Rattle.batch_worker.proofs.worker.Worker.fill.Goals as goal

pub loop-self-init : goal.loop-self-init
loop-self-init g c = filling_begins g.L.Link.told c.args.queue.now.id c.args.self.now c.requires.nothing_to_settle c.requires.of_this_queue

pub returns-then-not-take_one-clause-goes : goal.returns-then-not-take_one-clause-goes
returns-then-not-take_one-clause-goes g c = λ s.
    subst (λ (w : Working g.row.L.Denot). WorkerGoes g.L.Link.told s s c.args.self.now w) (sym c.if-not-take_one.ensures.none) (c.loop-self.invariant.goes s)

pub loop-self-preserved : goal.loop-self-preserved
loop-self-preserved g c =
    filling_goes_on g.L.Link.told c.args.queue.now.id c.args.self.now c.loop-self.self c.take_one.new.self c.loop-self.invariant c.if-not-take_one.ensures.taken c.if-not-take_one.ensures.waits
