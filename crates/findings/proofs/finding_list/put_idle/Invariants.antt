use Rattle.std.proofs.Common.{◌≡◌, ◌++◌, map, take}
use Rattle.findings.specs.Findings.{idle_finding}
use Rattle.findings.proofs.finding_list.put_idle.Given as goal

abbrev pub invariant-loop-host : goal.invariant-loop-host
invariant-loop-host l = l.found.items ≡ l.initial.found.items ++ map idle_finding (take l.host-index l.idle)
