use Rattle.std.proofs.Common.{length}
use Rattle.rounds.proofs.settled.+spans_told.Given as goal

abbrev pub decreases-spans_told : goal.decreases-spans_told
decreases-spans_told g l = length l.lanes.now
