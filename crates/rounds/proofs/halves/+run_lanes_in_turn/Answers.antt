use Rattle.rounds.proofs.Each.{first_each, paired_on}
use Rattle.rounds.proofs.halves.+run_lanes_in_turn.Goals as goal

pub run_lane-requires-clause-ready : goal.run_lane-requires-clause-ready
run_lane-requires-clause-ready g t c = first_each (g.S.Task.lane_ready c.args.task.now) c.args.lanes.now _ _ c.in-Some.ensures.cases.0 c.requires.ready

pub returns : goal.returns
returns g t c = paired_on (g.S.Task.lane_ran c.args.task.now) c.args.lanes.now _ _ _ _ c.in-Some.ensures.cases.0 c.run_lane.ensures c.run_lanes_in_turn.ensures
