use Rattle.lumber_client.specs.Exchange.{payloads_of}
use Rattle.lumber_client.proofs.Goings.{cleared_out, cleared_rest}
use Rattle.lumber_client.proofs.window.Window.empty.Goals as goal

pub returns : goal.returns
returns c = λ k. record {
  most = c.args.most;
  depth = c.args.depth;
  parcels = c.in_ok-with_capacity.ensures.items k;
  acknowledged = 0;
  in_flight = 0;
  flights = c.in_ok-with_capacity-2.ensures.items k;
  done = 0;
  last = 0;
  out = cleared_out c.in_ok-new.field-0 (payloads_of c.in_ok-with_capacity.field-0.items) 0 c.args.depth c.in_ok-new.ensures k;
  behind = cleared_rest c.in_ok-new.field-0 (payloads_of c.in_ok-with_capacity.field-0.items) 0 c.args.depth c.in_ok-new.ensures k;
  hearing = c.new-2.ensures k;
}
