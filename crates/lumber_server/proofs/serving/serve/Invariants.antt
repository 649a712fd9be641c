use Rattle.std.proofs.Common.{◌≤◌}
use Rattle.lumber_answers.specs.HandingOn.{telling}
use Rattle.lumber_server.specs.Turning.{session_state}
use Rattle.lumber_server.proofs.SoFar.{ServedSoFar}
use Rattle.lumber_server.proofs.serving.serve.Given as goal

abbrev pub invariant-loop : goal.invariant-loop
invariant-loop g l = record {
  goes_on : (goal.iterator-loop g).can_next l.iterator';
  ends : (goal.iterator-loop g).is_finite l.iterator';
  so_far : ServedSoFar (telling (g.L.Link.told l.initial.link) (g.S.Sink.written l.initial.out)) (telling (g.L.Link.told l.link) (g.S.Sink.written l.out)) (session_state l.session)
      (g.B.Bell.questions l.initial.bell) (g.B.Bell.questions l.bell) (g.L.Link.idles l.initial.link) (g.L.Link.idles l.link);
  link_faults : g.L.Link.faults l.initial.link ≤ g.L.Link.faults l.link;
  failed_sends : g.L.Link.failed_sends l.initial.link ≤ g.L.Link.failed_sends l.link;
  sink_faults : g.S.Sink.faults l.initial.out ≤ g.S.Sink.faults l.out;
  rings : g.B.Bell.rings l.initial.bell ≤ g.B.Bell.rings l.bell;
}
