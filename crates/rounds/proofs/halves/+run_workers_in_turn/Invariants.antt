use Rattle.std.proofs.Common.{length}
use Rattle.rounds.proofs.halves.+run_workers_in_turn.Given as goal

abbrev pub decreases-run_workers_in_turn : goal.decreases-run_workers_in_turn
decreases-run_workers_in_turn g l = length l.workers.now
