use Rattle.std.proofs.Common.{◌≡◌, ◌-◌, ◌≤◌, length, take}
use Rattle.run_steps.specs.Telling.{TellMoments}
use Rattle.run_steps.proofs.telling.tell_moments.Given as goal

abbrev pub invariant-files : goal.invariant-files
invariant-files l = record {
  within : l.slot ≤ length l.listed;
  told : TellMoments l.fn.keeper.store.rows 0 (take l.slot l.listed) l.fn.keeper l.keeper;
  rows : l.keeper.store.rows ≡ l.fn.keeper.store.rows;
}

abbrev pub decreases-files : goal.decreases-files
decreases-files l = length l.listed - l.slot
