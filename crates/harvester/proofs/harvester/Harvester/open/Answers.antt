use Rattle.std.proofs.Common.{[]}
use Rattle.harvester.specs.HasTold.{looks_so_far}
use Rattle.harvester.proofs.HasToldGiven.{looked_at_opening}
use Rattle.harvester.proofs.harvester.Harvester.open.Goals as goal

pub returns-in-Ok-clause-opened : goal.returns-in-Ok-clause-opened
returns-in-Ok-clause-opened g c = record {
  held = c.in-Ok.ensures.stands (looks_so_far (g.T.Tail.told c.args.tail));
  decides = c.in-Ok.ensures.decides;
  looked = looked_at_opening (g.T.Tail.numbers c.args.tail) c.args.rule.now c.args.processors.now c.args.begin c.args.now.0 (g.T.Tail.told c.args.tail);
}

pub returns-in-Ok-clause-begun : goal.returns-in-Ok-clause-begun
returns-in-Ok-clause-begun g c = (c.in-Ok.ensures.stands []).holds.follows.begin
