use Rattle.std.proofs.Common.{◌-◌, ◌≤◌}
use Rattle.batch_worker.specs.Steps.{PostsOf, TakesOf}
use Rattle.rounds.specs.CarrierTurns.{CarriesSoFar}
use Rattle.rounds.specs.Words.{link_words, wire_words}
use Rattle.rounds.proofs.carrier.Carrier.run.Given as goal

abbrev pub invariant-turns : goal.invariant-turns
invariant-turns g l = record {
  so_far : CarriesSoFar (link_words g.L.Link.told g.L.Link.faults g.L.Link.idles) (wire_words g.W.Wire.outcomes g.W.Wire.open_links g.W.Wire.faults g.W.Wire.idles) l.outlets.desk.now.capacity l.now l.turns l.fn.self l.self;
  takes : TakesOf l.outlets.queue.now.id l.self.worker.take;
  posts : PostsOf l.outlets.desk.now.id l.self.worker.post;
  most : l.turns ≤ 256;
}

abbrev pub decreases-turns : goal.decreases-turns
decreases-turns g l = 256 - l.turns
