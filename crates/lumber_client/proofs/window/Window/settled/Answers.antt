use Rattle.std.proofs.Common.{rules, take, sym, subst}
use Rattle.lumber_client.specs.Exchange.{with_handed}
use Rattle.lumber_client.specs.Held.{Held}
use Rattle.lumber_client.specs.Standing.{StandsFor}
use Rattle.lumber_client.proofs.Standings.{handed_all, handed_next, stands_handed}
use Rattle.lumber_client.proofs.window.Window.settled.Goals as goal

pub returns-clause-stands : goal.returns-clause-stands
returns-clause-stands c = λ e s.
    let w = c.args.self.now in
    let new = c.hand_out.new.self in
    let is = c.hand_out.ensures in
    subst (λ (v : Held). StandsFor v (with_handed e c.hand_out.result)) (sym is.others_stay) (stands_handed w e c.hand_out.result new.parcels new.acknowledged s is.first is.fewer)

pub returns-clause-what_was_acknowledged : goal.returns-clause-what_was_acknowledged
returns-clause-what_was_acknowledged c = λ e s.
    let new = c.hand_out.new.self in
    let is = c.hand_out.ensures in
    (take new.acknowledged new.parcels, handed_next c.args.self.now e c.hand_out.result new.parcels new.acknowledged s is.first is.fewer)

pub returns-then-not-has_settled-clause-what_was_acknowledged : goal.returns-then-not-has_settled-clause-what_was_acknowledged
returns-then-not-has_settled-clause-what_was_acknowledged c = λ e s. handed_all c.args.self.now e s (search rules)
