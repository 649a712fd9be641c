use Rattle.std.proofs.Common.{◌≤◌}
use Rattle.lumber_server.proofs.Visiting.{ServedLinks, run_call}
use Rattle.lumber_server.proofs.receiving.receive.Given as goal

abbrev pub invariant-loop-before : goal.invariant-loop-before
invariant-loop-before g l = record {
  served : ServedLinks (run_call (g.P.Port.finished l.fn.port) (g.P.Port.finished l.port) (g.S.Sink.written l.fn.out) (g.S.Sink.written l.out)
      (g.B.Bell.questions l.fn.bell) (g.B.Bell.questions l.bell) (g.P.Port.idles l.fn.port) (g.P.Port.idles l.port)) l._before;
  faults : g.S.Sink.faults l.fn.out ≤ g.S.Sink.faults l.out;
  port_faults : g.P.Port.faults l.fn.port ≤ g.P.Port.faults l.port;
  rings : g.B.Bell.rings l.fn.bell ≤ g.B.Bell.rings l.bell;
}
