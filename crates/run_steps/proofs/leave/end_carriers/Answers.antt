use Rattle.std.proofs.Common.{arith, refl, ◌∙◌}
use Rattle.rounds.proofs.Making.{all_but_last, last_of}
use Rattle.run_steps.specs.CarriersEnd.{HasCarrierPasses}
use Rattle.rounds.specs.WordsOf.{links_of, wires_of}
use Rattle.run_steps.proofs.Ended.{all_ended, ended_on, none_ended}
use Rattle.run_steps.proofs.leave.end_carriers.Goals as goal

pub carriers-init : goal.carriers-init
carriers-init g c = record {
  passes = c.requires.passes;
  ended = none_ended (links_of g.L.Link) (wires_of g.W.Wire) c.args.carriers.items c.args.wires.now.items;
  room = c.requires.room;
  capacity = refl;
}

pub end_carrier-requires-clause-passes : goal.end_carrier-requires-clause-passes
end_carrier-requires-clause-passes g c = last_of HasCarrierPasses c.carriers.carriers.items c.pop.new.self.items c.in-Some.carrier c.in-Some.ensures.items c.carriers.invariant.passes

pub end_carrier-requires-clause-room : goal.end_carrier-requires-clause-room
end_carrier-requires-clause-room g c = omega (arith, c.in-Some.ensures.len, c.carriers.invariant.room)

pub carriers-preserved : goal.carriers-preserved
carriers-preserved g c = record {
  passes = all_but_last HasCarrierPasses c.carriers.carriers.items c.pop.new.self.items c.in-Some.carrier c.in-Some.ensures.items c.carriers.invariant.passes;
  ended = ended_on (links_of g.L.Link) (wires_of g.W.Wire)
      c.args.carriers.items c.carriers.carriers.items c.pop.new.self.items c.in-Some.carrier c.args.wires.now.items c.carriers.wires.items c.end_carrier.new.wires.items
      c.carriers.invariant.ended c.in-Some.ensures.items c.end_carrier.ensures.ended;
  room = omega (arith, c.in-Some.ensures.len, c.end_carrier.ensures.len, c.end_carrier.ensures.capacity, c.carriers.invariant.room);
  capacity = c.end_carrier.ensures.capacity ∙ c.carriers.invariant.capacity;
}

pub returns-clause-ended : goal.returns-clause-ended
returns-clause-ended g c =
    all_ended (links_of g.L.Link) (wires_of g.W.Wire)
    c.args.carriers.items c.carriers.carriers.items c.args.wires.now.items c.carriers.wires.items c.carriers.invariant.ended (omega (arith, c.carriers.carriers.ok, c.in_default.ensures.cases.0))

pub returns-clause-capacity : goal.returns-clause-capacity
returns-clause-capacity g c = c.carriers.invariant.capacity
