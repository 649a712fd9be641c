use Rattle.std.proofs.Common.{◌≡◌}
use Rattle.outside_mem.proofs.folder.MemFolder.failures_of.Given as goal

abbrev pub invariant-loop-named : goal.invariant-loop-named
invariant-loop-named l = l.failures.faults ≡ 0
