use Rattle.std.proofs.Common.{◌≡◌, ◌≤◌, length, take}
use Rattle.ship_core.specs.Replay.{replay_on}
use Rattle.registry_store.proofs.store.apply_all.Given as goal

abbrev pub invariant-loop-op : goal.invariant-loop-op
invariant-loop-op l = record {
  so_far : l.rows ≡ replay_on l.fn.rows (take l.op-index l.ops);
  within : l.op-index ≤ length l.ops;
}
