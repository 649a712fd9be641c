use Rattle.std.proofs.Common.{length}
use Rattle.rounds.proofs.settling.+hand_on_lanes.Given as goal

abbrev pub decreases-hand_on_lanes : goal.decreases-hand_on_lanes
decreases-hand_on_lanes g l = length l.lanes.now
