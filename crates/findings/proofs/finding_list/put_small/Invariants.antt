use Rattle.std.proofs.Common.{◌≡◌, ◌++◌, map, take}
use Rattle.findings.specs.Findings.{small_finding}
use Rattle.findings.proofs.finding_list.put_small.Given as goal

abbrev pub invariant-loop-one : goal.invariant-loop-one
invariant-loop-one l = l.found.items ≡ l.initial.found.items ++ map (small_finding l.inputs) (take l.one-index l.small)
