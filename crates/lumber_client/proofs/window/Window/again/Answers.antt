use Rattle.std.proofs.Common.{sym, subst}
use Rattle.lumber_client.specs.Exchange.{anew}
use Rattle.lumber_client.specs.Held.{Held}
use Rattle.lumber_client.specs.Standing.{StandsFor}
use Rattle.lumber_client.proofs.Standings.{stands_again}
use Rattle.lumber_client.proofs.window.Window.again.Goals as goal

pub returns-clause-stands : goal.returns-clause-stands
returns-clause-stands c = λ e s. subst (λ (w : Held). StandsFor w (anew e)) (sym c.start_again.ensures) (stands_again c.args.self.now e s)
