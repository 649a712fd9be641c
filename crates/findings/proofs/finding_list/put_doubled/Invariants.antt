use Rattle.std.proofs.Common.{◌≡◌, ◌++◌, map, take}
use Rattle.findings.specs.Findings.{doubled_finding}
use Rattle.findings.proofs.finding_list.put_doubled.Given as goal

abbrev pub invariant-loop-one : goal.invariant-loop-one
invariant-loop-one l = l.found.items ≡ l.initial.found.items ++ map doubled_finding (take l.one-index l.doubled)
