use Rattle.std.proofs.Common.{◌≡◌, ◌≤◌, ◌++◌, length, Option}
use Rattle.lumber_client.specs.Exchange.{Exchange}
use Rattle.outside.specs.Talks.{Talk}
use Rattle.spool_queue.specs.SendSoFar.{GoesOut, Talks}
use Rattle.spool_queue.proofs.sending.send_out.Given as goal

-- but for what is to go out the window is as it was
abbrev pub invariant-pieces : goal.invariant-pieces
invariant-pieces g l = record {
  goes_out : (began : Option Talk) (e : Exchange) → Talks l.initial.window began (g.L.Link.told l.initial.link) e → GoesOut l.window began (g.L.Link.told l.link) e;
  parcels : l.window.parcels ≡ l.initial.window.parcels;
  acknowledged : l.window.acknowledged ≡ l.initial.window.acknowledged;
  in_flight : l.window.in_flight ≡ l.initial.window.in_flight;
  most : l.window.most ≡ l.initial.window.most;
  depth : l.window.depth ≡ l.initial.window.depth;
  hearing : l.window.hearing ≡ l.initial.window.hearing;
  faults : g.L.Link.faults l.initial.link ≤ g.L.Link.faults l.link;
  idles : g.L.Link.idles l.initial.link ≤ g.L.Link.idles l.link;
}

abbrev pub decreases-pieces : goal.decreases-pieces
decreases-pieces g l = length (l.window.out ++ l.window.behind)
