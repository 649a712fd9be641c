use Rattle.rounds.specs.Crewed.{lanings}
use Rattle.rounds.proofs.Making.{added_lane_begun, lane_known, lane_parted}
use Rattle.rounds.proofs.crewing.part_lane.Goals as goal

pub returns-clause-parts : goal.returns-clause-parts
returns-clause-parts g c moves posts have =
    lane_parted c.split_put-its_put.result c.split_post-its_post.result (lanings c.args.lanes.now.items) (lanings c.add_lane.new.lanes.items) c.add_lane.ensures.adds
    c.args.outlets.queue.now.id c.args.outlets.desk.now.id moves posts c.args.put.now c.split_put-its_put.new.pass c.args.post.now c.split_post-its_post.new.pass
    c.split_put-its_put.ensures.kept c.split_put-its_put.ensures.new c.split_post-its_post.ensures.kept c.split_post-its_post.ensures.new have

pub returns-clause-known : goal.returns-clause-known
returns-clause-known g c moved posted know =
    lane_known c.split_put-its_put.result c.split_post-its_post.result (lanings c.args.lanes.now.items) (lanings c.add_lane.new.lanes.items) c.add_lane.ensures.adds
    moved posted c.args.put.now c.split_put-its_put.new.pass c.args.post.now c.split_post-its_post.new.pass
    c.split_put-its_put.ensures.kept c.split_put-its_put.ensures.new c.split_post-its_post.ensures.kept c.split_post-its_post.ensures.new know

pub returns-clause-begun : goal.returns-clause-begun
returns-clause-begun g c begun =
    added_lane_begun c.split_put-its_put.result c.split_post-its_post.result (lanings c.args.lanes.now.items) (lanings c.add_lane.new.lanes.items) c.add_lane.ensures.adds begun
