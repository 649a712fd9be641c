use Rattle.std.proofs.Common.{length}
use Rattle.rounds.proofs.settled.+are_done.Given as goal

abbrev pub decreases-are_done : goal.decreases-are_done
decreases-are_done g l = length l.lanes.now
