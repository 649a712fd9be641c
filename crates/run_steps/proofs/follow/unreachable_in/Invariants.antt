use Rattle.std.proofs.Common.{All, ◌-◌, ◌≤◌, length, take}
use Rattle.run_steps.specs.MetIn.{HasTriesLeft}
use Rattle.run_steps.proofs.follow.unreachable_in.Given as goal

abbrev pub invariant-workers : goal.invariant-workers
invariant-workers g l = record {
  within : l.number ≤ length l.carriers;
  none : All (HasTriesLeft l.attempts) (take l.number l.carriers);
}

abbrev pub decreases-workers : goal.decreases-workers
decreases-workers g l = length l.carriers - l.number
