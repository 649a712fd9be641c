use Rattle.std.proofs.Common.{◌≡◌, ◌++◌, map, take}
use Rattle.findings.specs.Findings.{skipped_finding}
use Rattle.findings.proofs.glob_findings.put_skipped.Given as goal

abbrev pub invariant-loop-one : goal.invariant-loop-one
invariant-loop-one l = l.found.items ≡ l.initial.found.items ++ map skipped_finding (take l.one-index l.skipped)
