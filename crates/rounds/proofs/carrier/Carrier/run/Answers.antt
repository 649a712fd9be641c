use Rattle.std.proofs.Common.{ap, arith}
use Rattle.rounds.specs.declared.carrier.Carried.{Carried}
use Rattle.rounds.specs.Words.{link_words, wire_words}
use Rattle.rounds.proofs.CarrierSteps.{carries_all, carries_on, posts_stay, so_far_begins, so_far_on, takes_stay}
use Rattle.rounds.proofs.carrier.Carrier.run.Goals as goal

pub turns-init : goal.turns-init
turns-init g c = record {
  so_far = so_far_begins (link_words g.L.Link.told g.L.Link.faults g.L.Link.idles) (wire_words g.W.Wire.outcomes g.W.Wire.open_links g.W.Wire.faults g.W.Wire.idles) c.args.outlets.desk.now.capacity c.args.now
      c.args.self.now (record c.args.self.now { carried = c.begun-self.result }) (ap (λ (x : Carried). record c.args.self.now { carried = x }) c.begun-self.ensures);
  takes = c.requires.of_this_queue;
  posts = c.requires.of_this_box;
  most = omega arith;
}

pub returns-then-not-turn : goal.returns-then-not-turn
returns-then-not-turn g c = carries_on (link_words g.L.Link.told g.L.Link.faults g.L.Link.idles) (wire_words g.W.Wire.outcomes g.W.Wire.open_links g.W.Wire.faults g.W.Wire.idles) c.args.outlets.desk.now.capacity c.args.now
    c.turns.turns _ c.args.self.now c.turns.self c.turn.new.self c.turns.invariant.so_far c.turns-test.true c.if-not-turn.true c.turn.ensures

pub turns-preserved : goal.turns-preserved
turns-preserved g c =
    let links = link_words g.L.Link.told g.L.Link.faults g.L.Link.idles in
    let wires = wire_words g.W.Wire.outcomes g.W.Wire.open_links g.W.Wire.faults g.W.Wire.idles in
    record {
      so_far = so_far_on links wires c.args.outlets.desk.now.capacity c.args.now c.turns.turns _ c.args.self.now c.turns.self c.turn.new.self c.turns.invariant.so_far c.if-not-turn.false c.turn.ensures;
      takes = takes_stay links wires c.args.outlets.desk.now.capacity c.args.now _ _ c.turns.self c.turn.new.self c.turn.ensures c.turns.invariant.takes;
      posts = posts_stay links wires c.args.outlets.desk.now.capacity c.args.now _ _ c.turns.self c.turn.new.self c.turn.ensures c.turns.invariant.posts;
      most = omega (arith, c.turns-test.true);
    }

pub returns : goal.returns
returns g c = carries_all (link_words g.L.Link.told g.L.Link.faults g.L.Link.idles) (wire_words g.W.Wire.outcomes g.W.Wire.open_links g.W.Wire.faults g.W.Wire.idles) c.args.outlets.desk.now.capacity c.args.now
    c.turns.turns c.args.self.now c.turns.self (omega (arith, c.turns-test.false, c.turns.invariant.most)) c.turns.invariant.so_far
