use Rattle.std.proofs.Common.{◌≡◌, ◌-◌, ◌≤◌, length}
use Rattle.run_steps.proofs.HiddenTold.{HidesSoFar}
use Rattle.run_steps.proofs.hidden.tell_rows.Given as goal

abbrev pub invariant-rows : goal.invariant-rows
invariant-rows l = record {
  within : l.place ≤ length l.fn.keeper.store.rows;
  hides : HidesSoFar l.inputs l.listed l.fn.keeper.store.rows l.place l.slot l.fn.keeper l.keeper;
  rows : l.keeper.store.rows ≡ l.fn.keeper.store.rows;
}

abbrev pub decreases-rows : goal.decreases-rows
decreases-rows l = length l.fn.keeper.store.rows - l.place
