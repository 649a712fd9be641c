use Rattle.std.proofs.Common.{arith, refl, ◌∙◌}
use Rattle.rounds.specs.Making.{IsBegunCarrier}
use Rattle.rounds.specs.Words.{wire_words}
use Rattle.rounds.proofs.Making.{all_but_last, last_of, seen_none_left, seen_on}
use Rattle.rounds.proofs.crewing.give_back.Goals as goal

pub carriers-init : goal.carriers-init
carriers-init g c = record { begun = c.requires.begun; seen = refl; room = c.requires.room; capacity = refl }

pub give_one_back-requires-clause-begun : goal.give_one_back-requires-clause-begun
give_one_back-requires-clause-begun g c = last_of (IsBegunCarrier c.args.rule.now) c.carriers.carriers.items c.pop.new.self.items c.in-Some.carrier c.in-Some.ensures.items c.carriers.invariant.begun

pub give_one_back-requires-clause-room : goal.give_one_back-requires-clause-room
give_one_back-requires-clause-room g c = omega (arith, c.in-Some.ensures.len, c.carriers.invariant.room)

pub carriers-preserved : goal.carriers-preserved
carriers-preserved g c = record {
  begun = all_but_last (IsBegunCarrier c.args.rule.now) c.carriers.carriers.items c.pop.new.self.items c.in-Some.carrier c.in-Some.ensures.items c.carriers.invariant.begun;
  seen = seen_on (wire_words g.W.Wire.outcomes g.W.Wire.open_links g.W.Wire.faults g.W.Wire.idles) c.carriers.carriers.items c.pop.new.self.items c.in-Some.carrier c.carriers.wires.items c.give_one_back.new.wires.items
      c.in-Some.ensures.items c.give_one_back.ensures.seen ∙ c.carriers.invariant.seen;
  room = omega (arith, c.in-Some.ensures.len, c.give_one_back.ensures.len, c.give_one_back.ensures.capacity, c.carriers.invariant.room);
  capacity = c.give_one_back.ensures.capacity ∙ c.carriers.invariant.capacity;
}

pub returns-clause-seen : goal.returns-clause-seen
returns-clause-seen g c =
    seen_none_left (wire_words g.W.Wire.outcomes g.W.Wire.open_links g.W.Wire.faults g.W.Wire.idles) c.carriers.carriers.items c.carriers.wires.items _
    (omega (arith, c.carriers.carriers.ok, c.in_default.ensures.cases.0)) c.carriers.invariant.seen

pub returns-clause-capacity : goal.returns-clause-capacity
returns-clause-capacity g c = c.carriers.invariant.capacity
