use Rattle.std.proofs.Common.{◌-◌, length}
use Rattle.lumber_client.specs.Held.{waiting_in}
use Rattle.batch_worker.proofs.Stepping.{Filling}
use Rattle.batch_worker.proofs.worker.Worker.fill.Given as goal

abbrev pub invariant-loop-self : goal.invariant-loop-self
invariant-loop-self g l = Filling g.L.Link.told l.queue.id l.initial.self l.self

abbrev pub decreases-loop-self : goal.decreases-loop-self
decreases-loop-self g l = l.self.window.most - length (waiting_in l.self.window)
