use Rattle.std.proofs.Common.{◌≡◌, ◌+◌, take, drop}
use Rattle.lumber_client.specs.Exchange.{Exchange}
use Rattle.lumber_client.specs.Standing.{StandsFor}
use Rattle.settled_parcels.specs.Handing.{with_all_handed}
use Rattle.settled_parcels.proofs.settled.hand_out_settled.Given as goal

-- this many of the acknowledged parcels were handed out
abbrev pub invariant-parcels : goal.invariant-parcels
invariant-parcels l = record {
  handed : l.window.acknowledged + l.count ≡ l.initial.window.acknowledged;
  parcels : l.window.parcels ≡ drop l.count l.initial.window.parcels;
  stands : (e : Exchange) → StandsFor l.initial.window e → StandsFor l.window (with_all_handed e (take l.count l.initial.window.parcels));
  in_flight : l.window.in_flight ≡ l.initial.window.in_flight;
  out : l.window.out ≡ l.initial.window.out;
  hearing : l.window.hearing ≡ l.initial.window.hearing;
  most : l.window.most ≡ l.initial.window.most;
  depth : l.window.depth ≡ l.initial.window.depth;
}

abbrev pub decreases-parcels : goal.decreases-parcels
decreases-parcels l = l.window.acknowledged
