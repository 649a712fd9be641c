use Rattle.std.proofs.Common.{length}
use Rattle.rounds.proofs.halves.+run_lanes_in_turn.Given as goal

abbrev pub decreases-run_lanes_in_turn : goal.decreases-run_lanes_in_turn
decreases-run_lanes_in_turn g l = length l.lanes.now
