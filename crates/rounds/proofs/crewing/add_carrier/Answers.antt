use Rattle.std.proofs.Common.{All, [], ◌∷◌, sym, subst, arith}
use Rattle.std.proofs.lemmas.List.Elements.{All-append, All-cons, All-nil}
use Rattle.rounds.specs.Making.{StandsForNothing}
use Rattle.rounds.proofs.Making.{adds_carrier, first_and_rest}
use Rattle.rounds.proofs.crewing.add_carrier.Goals as goal

pub returns-in-Ok-clause-adds : goal.returns-in-Ok-clause-adds
returns-in-Ok-clause-adds g c =
    adds_carrier c.args.rule.now c.args.number c.args.its.take c.args.its.post c.args.wires.now.items c.remove-wire.new.self.items c.args.carriers.now.items c.push_reserved.new.self.items
    c.in-Ok.worker c.remove-wire.result c.new-in-Ok.result c.new-in-Ok.ensures c.push_reserved.ensures.items
    (first_and_rest c.args.wires.now.items c.remove-wire.result c.remove-wire.new.self.items (omega (arith, c.args.wires.now.ok, c.requires.some_wire)) c.remove-wire.ensures.value c.remove-wire.ensures.by_index.2)
    c.in-Ok.ensures.begun c.in-Ok.ensures.host

pub returns-in-Ok-clause-stands : goal.returns-in-Ok-clause-stands
returns-in-Ok-clause-stands g c all =
    subst (All (StandsForNothing g.L.Link.told)) (sym c.push_reserved.ensures.items)
    (All-append (StandsForNothing g.L.Link.told) c.args.carriers.now.items (c.new-in-Ok.result ∷ []) all
    (All-cons (StandsForNothing g.L.Link.told) c.new-in-Ok.result [] (subst (StandsForNothing g.L.Link.told) (sym c.new-in-Ok.ensures) c.in-Ok.ensures.stands)
    (All-nil (StandsForNothing g.L.Link.told))))
