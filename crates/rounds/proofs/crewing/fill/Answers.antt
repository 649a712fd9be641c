use Rattle.std.proofs.Common.{arith, ◌-◌, ◌∙◌}
use Rattle.settle_box.specs.Poster.{senders_of}
use Rattle.settle_box.specs.Senders.{posted_by}
use Rattle.rounds.proofs.Making.{added_carrier_begun, begun_either, carrier_known, carrier_parted, last_carrier_known, on_true, wires_either, wires_on}
use Rattle.rounds.proofs.crewing.fill.Goals as goal

pub workers-preserved : goal.workers-preserved
workers-preserved g c =
    let adds = c.if-not-add_carrier.ensures.adds in
    record {
      parts = carrier_parted c.args.rule.now (c.workers.made - 1) c.split_take.result c.split_post.result c.workers.wires.items c.add_carrier.new.wires.items c.workers.carriers.items c.add_carrier.new.carriers.items adds
          c.args.outlets.queue.now.id c.args.outlets.desk.now.id c.args.all.take.share c.args.all.post.share c.workers.take c.split_take.new.pass c.workers.post c.split_post.new.pass
          c.split_take.ensures.kept c.split_take.ensures.new c.split_post.ensures.kept c.split_post.ensures.new c.workers.invariant.parts;
      known = carrier_known c.args.rule.now (c.workers.made - 1) c.split_take.result c.split_post.result c.workers.wires.items c.add_carrier.new.wires.items c.workers.carriers.items c.add_carrier.new.carriers.items adds
          c.args.all.take.entries (posted_by (senders_of c.args.all.post)) c.workers.take c.split_take.new.pass c.workers.post c.split_post.new.pass
          c.split_take.ensures.kept c.split_take.ensures.new c.split_post.ensures.kept c.split_post.ensures.new c.workers.invariant.known;
      stands = c.add_carrier.ensures.stands c.workers.invariant.stands;
      begun = added_carrier_begun c.args.rule.now (c.workers.made - 1) c.split_take.result c.split_post.result c.workers.wires.items c.add_carrier.new.wires.items c.workers.carriers.items c.add_carrier.new.carriers.items adds c.workers.invariant.begun;
      wires = wires_on c.args.rule.now (c.workers.made - 1) c.split_take.result c.split_post.result c.workers.wires.items c.add_carrier.new.wires.items c.workers.carriers.items c.add_carrier.new.carriers.items adds
          c.args.wires.now.items (omega (arith, c.workers.carriers.ok, c.workers.invariant.many)) c.workers.invariant.wires;
      many = omega (arith, c.if-not-add_carrier.ensures.len, c.workers.invariant.many);
      few = omega (arith, c.workers-test.true);
      room = omega (arith, c.add_carrier.ensures.capacity, c.workers.invariant.room);
      left = omega (arith, c.if-not-add_carrier.ensures.len, c.if-not-add_carrier.ensures.wire_len, c.workers.invariant.left);
      capacity = c.add_carrier.ensures.wire_capacity ∙ c.workers.invariant.capacity;
    }

pub returns-clause-begun : goal.returns-clause-begun
returns-clause-begun g c =
    begun_either c.args.rule.now (c.workers.made - 1) c.workers.take c.workers.post c.workers.wires.items c.add_carrier-2.new.wires.items c.workers.carriers.items c.add_carrier-2.new.carriers.items
    c.add_carrier-2.result c.add_carrier-2.ensures.adds c.add_carrier-2.ensures.kept c.workers.invariant.begun

pub returns-clause-wires : goal.returns-clause-wires
returns-clause-wires g c =
    wires_either c.args.rule.now (c.workers.made - 1) c.workers.take c.workers.post c.workers.wires.items c.add_carrier-2.new.wires.items c.workers.carriers.items c.add_carrier-2.new.carriers.items
    c.add_carrier-2.result c.add_carrier-2.ensures.adds c.add_carrier-2.ensures.kept c.args.wires.now.items (omega (arith, c.workers.carriers.ok, c.workers.invariant.many)) c.workers.invariant.wires
