use Rattle.std.proofs.Common.{take}
use Rattle.findings.specs.Seeing.{TriesAll}
use Rattle.findings.proofs.seeing.see_hosts.Given as goal

abbrev pub invariant-loop-host : goal.invariant-loop-host
invariant-loop-host g l = TriesAll (g.H.Hosts.tried l.initial.hosts) (take l.host-index l.named) l.trials.items (g.H.Hosts.tried l.hosts)
