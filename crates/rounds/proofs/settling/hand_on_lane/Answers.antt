use Rattle.lanes.specs.Laning.{laning}
use Rattle.rounds.proofs.LastSteps.{lane_handed}
use Rattle.rounds.proofs.settling.hand_on_lane.Goals as goal

pub returns : goal.returns
returns g c = lane_handed c.args.desk.now.capacity c.hand_on.result (laning c.args.lane.now) (laning c.hand_on.new.self) c.hand_on.ensures.posted c.hand_on.ensures.kept c.hand_on.ensures.left_only_where_full
