use Rattle.std.proofs.Common.{◌≡◌, ◌+◌, ◌-◌, ◌≤◌}
use Rattle.outside.specs.Counts.{IsAtEnd}
use Rattle.lumber_server.proofs.receiving.accept_next.Given as goal

abbrev pub invariant-loop : goal.invariant-loop
invariant-loop g l = record {
  goes_on : (goal.iterator-loop g).can_next l.iterator';
  ends : (goal.iterator-loop g).is_finite l.iterator';
  finished : g.P.Port.finished l.port ≡ g.P.Port.finished l.initial.port;
  asked : (IsAtEnd (g.P.Port.idles l.port) → ⊥) → g.B.Bell.questions l.bell ≤ g.B.Bell.questions l.initial.bell + (g.P.Port.idles l.port - g.P.Port.idles l.initial.port);
  idles : g.P.Port.idles l.initial.port ≤ g.P.Port.idles l.port;
  faults : g.P.Port.faults l.initial.port ≤ g.P.Port.faults l.port;
  rings : g.B.Bell.rings l.initial.bell ≤ g.B.Bell.rings l.bell;
}
