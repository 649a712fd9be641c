use Rattle.std.proofs.Common.{sym, subst}
use Rattle.lumber_client.specs.Exchange.{with_begun}
use Rattle.lumber_client.specs.Held.{Held, next_in}
use Rattle.lumber_client.specs.Standing.{StandsFor}
use Rattle.lumber_client.proofs.Standings.{stands_begun}
use Rattle.lumber_client.proofs.window.Window.begin.Goals as goal

pub returns-clause-stands : goal.returns-clause-stands
returns-clause-stands c = λ e s.
    let w = c.args.self.now in
    let new = c.begin_next.new.self in
    let is = c.begin_next.ensures in
    subst (λ (v : Held). StandsFor v (with_begun e (next_in w))) (sym is.begun) (stands_begun w e new.out new.behind s is.range c.requires.room is.written is.nothing_behind)
