use Rattle.std.proofs.Common.{ℕ, List, arith, ap, sym, take, ◌∙◌}
use Rattle.std.proofs.lemmas.List.{with_items_is}
use Rattle.lumber_server.proofs.Hearing.{nothing_heard, piece_heard}
use Rattle.lumber_server.proofs.incoming.Incoming.receive.Goals as goal

pub returns-in-Got-clause-heard : goal.returns-in-Got-clause-heard
returns-in-Got-clause-heard g c =
    piece_heard _ _ c.args.self.now c.self.inside.buffer.items c.deref_mut.result.now c.receive_behind-heard.new.buffer _ c.self.inside.filled c.in-Got.count (sym c.self.view_is)
    (ap (λ (l : List ℕ). take c.self.inside.filled l) c.deref_mut.ensures.value ∙ c.make_room.ensures.kept)
    c.receive_behind-heard.ensures.front (with_items_is c.make_room.new.buffer c.receive_behind-heard.new.buffer (omega arith)) c.in-Got.ensures.heard

pub returns-in_default-clause-heard : goal.returns-in_default-clause-heard
returns-in_default-clause-heard g c =
    nothing_heard _ _ c.args.self.now c.self.inside.buffer.items c.deref_mut.result.now c.receive_behind-heard.new.buffer _ c.self.inside.filled _ c.in_default.not-Got (sym c.self.view_is)
    (ap (λ (l : List ℕ). take c.self.inside.filled l) c.deref_mut.ensures.value ∙ c.make_room.ensures.kept)
    c.receive_behind-heard.ensures.front (with_items_is c.make_room.new.buffer c.receive_behind-heard.new.buffer (omega arith)) c.receive_behind-heard.ensures.heard
