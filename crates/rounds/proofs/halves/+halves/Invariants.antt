use Rattle.std.proofs.Common.{◌+◌, ◌-◌, ◌*◌, length}
use Rattle.rounds.proofs.halves.+halves.Given as goal

abbrev pub decreases-run_parts : goal.decreases-run_parts
decreases-run_parts g l = 4 * (length l.lanes.now + length l.workers.now)

abbrev pub decreases-run_halves : goal.decreases-run_halves
decreases-run_halves g l = 4 * (length l.lanes.now + length l.workers.now + length l.more_lanes.now + length l.more_workers.now) - 1

abbrev pub decreases-run_halves-running : goal.decreases-run_halves-running
decreases-run_halves-running g l = 4 * (length l.lanes.now + length l.workers.now) + 1

abbrev pub decreases-run_halves-running_more : goal.decreases-run_halves-running_more
decreases-run_halves-running_more g l = 4 * (length l.more_lanes.now + length l.more_workers.now) + 1
