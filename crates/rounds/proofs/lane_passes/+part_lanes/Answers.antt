use Rattle.std.proofs.Common.{ap}
use Rattle.rounds.specs.Crewed.{lane_passes, lanes_passes, lanings}
use Rattle.rounds.proofs.Parting.{parted_on}
use Rattle.rounds.proofs.lane_passes.+part_lanes.Goals as goal

pub returns-clause-parted : goal.returns-clause-parted
returns-clause-parted g t c =
    parted_on c.args.outlets.queue.now.id c.args.outlets.desk.now.id c.args.put c.split_put.new.pass c.split_put.result c.args.post c.split_post.new.pass c.split_post.result
    _ (lanes_passes (lanings c.part_lanes.new.lanes)) c.requires.of_this_queue c.requires.of_this_box
    c.split_put.ensures.kept c.split_put.ensures.new c.split_post.ensures.kept c.split_post.ensures.new
    (ap lane_passes c.take_up-2.ensures) c.part_lanes.ensures.parted
