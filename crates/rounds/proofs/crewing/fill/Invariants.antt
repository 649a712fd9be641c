use Rattle.std.proofs.Common.{◌≡◌, ◌+◌, ◌-◌, ◌≤◌, All}
use Rattle.std.specs.Prelude.{vec_len, vec_capacity}
use Rattle.settle_box.specs.Poster.{senders_of}
use Rattle.settle_box.specs.Senders.{posted_by}
use Rattle.rounds.specs.Crewed.{carriers_passes}
use Rattle.rounds.specs.Making.{HaveParts, HaveWires, IsBegunCarrier, KnowWith, StandsForNothing}
use Rattle.rounds.proofs.crewing.fill.Given as goal

abbrev pub invariant-workers : goal.invariant-workers
invariant-workers g l = record {
  parts : HaveParts l.outlets.queue.now.id l.outlets.desk.now.id l.fn.all.take.share l.fn.all.post.share l.take l.post (carriers_passes l.carriers.items);
  known : KnowWith l.fn.all.take.entries (posted_by (senders_of l.fn.all.post)) l.take l.post (carriers_passes l.carriers.items);
  stands : All (StandsForNothing g.L.Link.told) l.carriers.items;
  begun : All (IsBegunCarrier l.fn.rule) l.carriers.items;
  wires : HaveWires l.fn.rule l.fn.wires.items l.wires.items l.carriers.items;
  many : vec_len l.carriers + 1 ≡ l.made;
  few : l.made ≤ l.fn.rule.workers;
  room : l.fn.rule.workers ≤ vec_capacity l.carriers;
  left : vec_len l.wires + vec_len l.carriers ≡ vec_len l.fn.wires;
  capacity : vec_capacity l.wires ≡ vec_capacity l.fn.wires;
}

abbrev pub decreases-workers : goal.decreases-workers
decreases-workers g l = l.fn.rule.workers - l.made
