use Rattle.std.proofs.Common.{◌≡◌, ◌++◌, flat_map, take}
use Rattle.findings.specs.Findings.{glob_findings}
use Rattle.findings.proofs.glob_findings.put_globs.Given as goal

abbrev pub invariant-loop-one : goal.invariant-loop-one
invariant-loop-one l = l.found.items ≡ l.initial.found.items ++ flat_map glob_findings (take l.one-index l.globs)
