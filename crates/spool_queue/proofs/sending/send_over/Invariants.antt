use Rattle.std.proofs.Common.{◌≤◌}
use Rattle.spool_queue.specs.SendSoFar.{ClockGoesOn}
use Rattle.spool_queue.specs.Sending.{IsIdle}
use Rattle.spool_queue.specs.Standing.{IsClosed}
use Rattle.spool_queue.proofs.Overs.{IsSentTo}
use Rattle.spool_queue.proofs.sending.send_over.Given as goal

-- what was acknowledged is settled, and no window is in flight
abbrev pub invariant-loop : goal.invariant-loop
invariant-loop g l = record {
  able : (goal.iterator-loop g).can_next l.iterator' × (goal.iterator-loop g).is_finite l.iterator';
  unclosed : ¬ (IsClosed l.spool);
  idle : IsIdle l.window;
  sent : IsSentTo g.D.Disk l.initial.disk l.disk l.initial.spool l.spool l.window (g.L.Link.told l.initial.link) (g.L.Link.told l.link) l.walk;
  faults : g.L.Link.faults l.initial.link ≤ g.L.Link.faults l.link;
  idles : g.L.Link.idles l.initial.link ≤ g.L.Link.idles l.link;
  clock : ClockGoesOn (g.K.Clock.moments l.initial.clock) (g.K.Clock.moments l.clock);
}
