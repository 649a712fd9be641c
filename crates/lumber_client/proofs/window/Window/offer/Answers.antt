use Rattle.std.proofs.Common.{sym, subst}
use Rattle.lumber_client.specs.Held.{Held}
use Rattle.lumber_client.specs.Standing.{StandsFor}
use Rattle.lumber_client.proofs.Standings.{stands_offered}
use Rattle.lumber_client.proofs.window.Window.offer.Goals as goal

pub returns-clause-stands : goal.returns-clause-stands
returns-clause-stands c = λ e s. subst (λ (w : Held). StandsFor w e) (sym c.push.ensures.offered) (stands_offered c.args.self.now e c.args.parcel s)
