use Rattle.std.proofs.Common.{◌≡◌, take}
use Rattle.findings.specs.Globs.{asked_globs}
use Rattle.findings.proofs.globs.globs_of.Given as goal

abbrev pub invariant-loop-number : goal.invariant-loop-number
invariant-loop-number l = l.globs.items ≡ asked_globs 0 (take l.number l.inputs)
