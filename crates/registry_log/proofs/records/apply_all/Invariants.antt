use Rattle.std.proofs.Common.{◌≡◌}
use Rattle.ship_core.specs.Replay.{replay_on}
use Rattle.registry_log.proofs.records.apply_all.Given as goal

abbrev pub invariant-loop-op : goal.invariant-loop-op
invariant-loop-op l = l.rows ≡ replay_on l.fn.rows l.yielded
