use Rattle.std.proofs.Common.{◌≡◌, drop}
use Rattle.ship_core.specs.Replay.{replay_on}
use Rattle.ship_core.proofs.pending.replayed.Given as goal

-- the operations that are left lead from here to the end
abbrev pub invariant-loop-op : goal.invariant-loop-op
invariant-loop-op l = replay_on l.after (drop l.op-index l.ops) ≡ replay_on l.rows l.ops
