use Rattle.std.proofs.Common.{◌≡◌, ◌+◌, ◌-◌, ◌≤◌, All}
use Rattle.std.specs.Prelude.{vec_len, vec_capacity}
use Rattle.settle_box.specs.Poster.{senders_of}
use Rattle.settle_box.specs.Senders.{posted_by}
use Rattle.rounds.specs.Crewed.{lanes_passes, lanings}
use Rattle.rounds.specs.Making.{HaveParts, IsBegunLane, KnowWith}
use Rattle.rounds.proofs.crewing.lanes_of.Given as goal

abbrev pub invariant-lanes : goal.invariant-lanes
invariant-lanes g l = record {
  parts : HaveParts l.outlets.queue.now.id l.outlets.desk.now.id l.fn.put.share l.fn.post.share l.put l.post (lanes_passes (lanings l.lanes.items));
  known : KnowWith l.fn.put.entries (posted_by (senders_of l.fn.post)) l.put l.post (lanes_passes (lanings l.lanes.items));
  begun : All IsBegunLane (lanings l.lanes.items);
  many : vec_len l.lanes + 1 ≡ l.made;
  few : l.made ≤ l.count;
  room : l.count ≤ vec_capacity l.lanes;
}

abbrev pub decreases-lanes : goal.decreases-lanes
decreases-lanes g l = l.count - l.made
