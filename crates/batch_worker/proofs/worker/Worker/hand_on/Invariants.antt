use Rattle.batch_worker.proofs.Stepping.{Posting}
use Rattle.batch_worker.proofs.worker.Worker.hand_on.Given as goal

abbrev pub invariant-loop-self : goal.invariant-loop-self
invariant-loop-self g l = Posting g.L.Link.told l.desk.id l.fn.self l.self

abbrev pub decreases-loop-self : goal.decreases-loop-self
decreases-loop-self g l = l.self.window.acknowledged
