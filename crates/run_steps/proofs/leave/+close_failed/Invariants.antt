use Rattle.std.proofs.Common.{length}
use Rattle.run_steps.proofs.leave.+close_failed.Given as goal

abbrev pub decreases-close_failed : goal.decreases-close_failed
decreases-close_failed g l = length l.lanes.now
