use Rattle.std.proofs.Common.{◌≡◌, take}
use Rattle.findings.proofs.mem.copy_all.Given as goal

abbrev pub invariant-loop-one : goal.invariant-loop-one
invariant-loop-one l = l.copied.items ≡ take l.one-index l.skipped
