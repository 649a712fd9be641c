use Rattle.std.proofs.Common.{arith, sym, subst, ◌≤◌, ℕ}
use Rattle.settle_box.specs.Poster.{senders_of}
use Rattle.settle_box.specs.Senders.{posted_by}
use Rattle.rounds.specs.Crewed.{lanings}
use Rattle.rounds.proofs.Making.{added_lane_begun, last_lane_known, last_lane_parted}
use Rattle.rounds.proofs.crewing.lanes_of.Goals as goal

pub lanes-preserved : goal.lanes-preserved
lanes-preserved g c = record {
  parts = c.part_lane.ensures.parts c.args.put.share c.args.post.share c.lanes.invariant.parts;
  known = c.part_lane.ensures.known c.args.put.entries (posted_by (senders_of c.args.post)) c.lanes.invariant.known;
  begun = c.part_lane.ensures.begun c.lanes.invariant.begun;
  many = omega (arith, c.part_lane.ensures.len, c.lanes.invariant.many);
  few = omega (arith, c.lanes-test.true);
  room = omega (arith, c.part_lane.ensures.capacity, c.lanes.invariant.room);
}

pub returns-clause-all : goal.returns-clause-all
returns-clause-all g c =
    last_lane_parted c.lanes.put c.lanes.post (lanings c.lanes.lanes.items) (lanings c.add_lane.new.lanes.items) c.add_lane.ensures.adds
    c.args.outlets.queue.now.id c.args.outlets.desk.now.id c.args.put.share c.args.post.share c.lanes.invariant.parts

pub returns-clause-known : goal.returns-clause-known
returns-clause-known g c =
    last_lane_known c.lanes.put c.lanes.post (lanings c.lanes.lanes.items) (lanings c.add_lane.new.lanes.items) c.add_lane.ensures.adds
    c.args.put.entries (posted_by (senders_of c.args.post)) c.lanes.invariant.known

pub returns-clause-begun : goal.returns-clause-begun
returns-clause-begun g c =
    added_lane_begun c.lanes.put c.lanes.post (lanings c.lanes.lanes.items) (lanings c.add_lane.new.lanes.items) c.add_lane.ensures.adds c.lanes.invariant.begun
