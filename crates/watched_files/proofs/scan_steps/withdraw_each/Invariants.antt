use Rattle.std.proofs.Common.{None}
use Rattle.watched_files.specs.Watching.{HasPut}
use Rattle.watched_files.proofs.scan_steps.withdraw_each.Given as goal

abbrev pub invariant-loop-slot : goal.invariant-loop-slot
invariant-loop-slot l = HasPut None l.first l.slot l.initial.table l.table
