use Rattle.std.proofs.Common.{take, sym, subst}
use Rattle.lumber_client.specs.Exchange.{with_sent}
use Rattle.lumber_client.specs.Held.{Held}
use Rattle.lumber_client.specs.Standing.{StandsFor}
use Rattle.lumber_client.proofs.Standings.{stands_sent}
use Rattle.lumber_client.proofs.window.Window.sent.Goals as goal

pub returns-clause-stands : goal.returns-clause-stands
returns-clause-stands c = λ e s.
    let w = c.args.self.now in
    let new = c.pass.new.self in
    let is = c.pass.ensures in
    subst (λ (v : Held). StandsFor v (with_sent e (take c.args.n w.out))) (sym is.sent) (stands_sent w e c.args.n new.out new.behind s c.requires is.rest is.nothing_behind)
