use Rattle.std.proofs.Common.{◌+◌}
use Rattle.lumber_client.specs.Exchange.{payloads_of}
use Rattle.lumber_client.proofs.Goings.{cleared_out, cleared_rest}
use Rattle.lumber_client.proofs.window.Window.start_again.Goals as goal

pub returns : goal.returns
returns c = rw (← c.self.view_is) (λ k. record {
  most = c.self.inside.most;
  depth = c.self.inside.depth;
  parcels = c.self.inside.parcels.items;
  acknowledged = c.self.inside.acknowledged;
  in_flight = 0;
  flights = c.clear.ensures.items k;
  done = 0;
  last = 0;
  out = cleared_out c.clear-2.new.self (payloads_of c.self.inside.parcels.items) (c.self.inside.acknowledged + 0) c.self.inside.outgoing.depth c.clear-2.ensures k;
  behind = cleared_rest c.clear-2.new.self (payloads_of c.self.inside.parcels.items) (c.self.inside.acknowledged + 0) c.self.inside.outgoing.depth c.clear-2.ensures k;
  hearing = c.new-self-inside.ensures k;
})
