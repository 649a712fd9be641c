use Rattle.std.proofs.Common.{◌≡◌, ◌≤◌, [], length}
use Rattle.spool_queue.specs.SendSoFar.{ClockGoesOn, HasGiven}
use Rattle.spool_queue.specs.Sending.{IsAwaited}
use Rattle.spool_queue.specs.Standing.{IsClosed, count_of}
use Rattle.spool_queue.proofs.Windows.{IsSettledTo}
use Rattle.spool_queue.proofs.sending.settle_window.Given as goal

-- the window is awaited, all of it is out, and what was acknowledged of it is settled; the clock gave the moment when the peer was heard last
abbrev pub invariant-loop : goal.invariant-loop
invariant-loop g l = record {
  able : (goal.iterator-loop g).can_next l.iterator' × (goal.iterator-loop g).is_finite l.iterator';
  piece : length l.piece ≡ 4096;
  awaited : IsAwaited l.window (count_of l.spool);
  out : l.window.out ≡ [];
  unclosed : ¬ (IsClosed l.spool);
  settled : IsSettledTo g.D.Disk l.initial.disk l.disk l.initial.spool l.spool l.initial.window l.window (g.L.Link.told l.initial.link) (g.L.Link.told l.link);
  faults : g.L.Link.faults l.initial.link ≤ g.L.Link.faults l.link;
  idles : g.L.Link.idles l.initial.link ≤ g.L.Link.idles l.link;
  clock : ClockGoesOn (g.K.Clock.moments l.initial.clock) (g.K.Clock.moments l.clock);
  heard : HasGiven (g.K.Clock.moments l.initial.clock) (g.K.Clock.moments l.clock) l.heard.0;
}
