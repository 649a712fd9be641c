use Rattle.std.proofs.Common.{◌≡◌, ◌<◌, [], length, subst}
use Rattle.batch_worker.specs.Working.{Working}
use Rattle.batch_worker.proofs.Turning.{some_out}
use Rattle.batch_worker.proofs.worker.Worker.silent_since.Goals as goal

pub returns-clause-some_outs : goal.returns-clause-some_outs
returns-clause-some_outs g c =
    let w = c.self.inside in
    subst (λ (v : Working g.row.L.Denot). v.window.out ≡ [] → 0 < length v.window.flights → 0 < length v.outs) c.self.view_is
    (λ out flights. some_out w.outs.items w.window.out (length w.window.flights) c.self.invariant.outs out flights)
