use Rattle.std.proofs.Common.{length}
use Rattle.rounds.proofs.running.+busy_lanes.Given as goal

abbrev pub decreases-busy_lanes : goal.decreases-busy_lanes
decreases-busy_lanes g l = length l.lanes.now
