use Rattle.std.proofs.Common.{length}
use Rattle.rounds.proofs.lane_passes.+part_lanes.Given as goal

abbrev pub decreases-part_lanes : goal.decreases-part_lanes
decreases-part_lanes g l = length l.lanes.now
