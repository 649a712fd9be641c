use Rattle.std.proofs.Common.{inl, refl, arith}
use Rattle.lumber_server.proofs.Turning.{nothing_end, same_moves, settled_end, turn_idle, turned_behind, unmoved}
use Rattle.lumber_server.proofs.session.Session.turn.Goals as goal

pub returns-in_default-clause-turned : goal.returns-in_default-clause-turned
returns-in_default-clause-turned g c = nothing_end _ _ _ (unmoved _ _ c.in_default.ensures.none_heard refl)

pub returns-in-Got-clause-turned : goal.returns-in-Got-clause-turned
returns-in-Got-clause-turned g c =
    let heard = c.in-Ok.ensures.heard in
    turned_behind _ _ _ _ _ c.args.self.now (record { incoming = c.receive.new.self; transfer = c.args.self.now.transfer }) c.hand_over.new.self _ (rw c.in-Got.is at heard) refl refl (omega arith) c.hand_over.ensures.handed

pub returns-in-NotYet-clause-turned : goal.returns-in-NotYet-clause-turned
returns-in-NotYet-clause-turned g c =
    let heard = c.in-Ok.ensures.heard in
    let rose = c.in-Ok.ensures.not_yet_only_where_idles_rose in
    let nothing = rw c.in-NotYet.is at heard in
    turn_idle _ _ _ _ c.args.self.now (record { incoming = c.receive.new.self; transfer = c.args.self.now.transfer }) (same_moves _ _ nothing.talk_is refl) nothing.same refl (rw c.in-NotYet.is at rose tt) c.requires

pub returns-in-Closed-clause-turned : goal.returns-in-Closed-clause-turned
returns-in-Closed-clause-turned g c =
    let heard = c.in-Ok.ensures.heard in
    let nothing = rw c.in-Closed.is at heard in
    settled_end _ _ _ _ (inl refl) c.requires (same_moves _ _ nothing.talk_is refl)

pub returns-in-Failed-clause-turned : goal.returns-in-Failed-clause-turned
returns-in-Failed-clause-turned g c =
    let heard = c.in-Ok.ensures.heard in
    let nothing = rw c.in-Failed.is at heard in
    settled_end _ _ _ _ (inl refl) c.requires (same_moves _ _ nothing.talk_is refl)
