use Rattle.std.proofs.Common.{length}
use Rattle.rounds.proofs.answer.+some_lane_moved.Given as goal

abbrev pub decreases-some_lane_moved : goal.decreases-some_lane_moved
decreases-some_lane_moved g l = length l.lanes.now
