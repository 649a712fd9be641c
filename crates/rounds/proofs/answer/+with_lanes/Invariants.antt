use Rattle.std.proofs.Common.{length}
use Rattle.rounds.proofs.answer.+with_lanes.Given as goal

abbrev pub decreases-with_lanes : goal.decreases-with_lanes
decreases-with_lanes g l = length l.lanes.now
