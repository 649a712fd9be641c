use Rattle.std.proofs.Common.{None}
use Rattle.rounds.specs.Crewing.{crewing}
use Rattle.rounds.specs.WordsOf.{words_of}
use Rattle.run_steps.proofs.LastOnes.{hands_on_by_round, hands_on_by_two, hands_on_nothing, stores_by_round}
use Rattle.run_steps.proofs.settle.store_all.Goals as goal

pub loop-init : goal.loop-init
loop-init g c = record { goes_on = tt; ends = tt; hands_on = hands_on_nothing None (crewing c.args.crew.now c.args.storing.now) c.requires.ready.able (λ goes. c.requires.ready) }

pub loop-preserved : goal.loop-preserved
loop-preserved g c = record {
  goes_on = tt;
  ends = tt;
  hands_on = hands_on_by_two c.loop.invariant.hands_on
      (hands_on_by_round (words_of g.T.Tail g.L.Link g.W.Wire g.D.Disk) c.args.context c.disk_images_are_counted.ensures.reads c.disk_images_are_counted.ensures.counts
      c.loop.crew c.settle-round.new.self c.loop.storing c.settle-round.new.storing c.settle-round.result c.settle-round.ensures.settles c.settle-round.ensures.keeps None c.in_default.ensures);
}

pub returns-in-Some-stored_by : goal.returns-in-Some-stored_by
returns-in-Some-stored_by g c =
    stores_by_round (words_of g.T.Tail g.L.Link g.W.Wire g.D.Disk) c.args.context c.disk_images_are_counted.ensures.reads c.disk_images_are_counted.ensures.counts
    c.loop.crew c.settle-round.new.self c.loop.storing c.settle-round.new.storing c.settle-round.result c.settle-round.ensures.settles c.settle-round.ensures.keeps
    c.in-Some-stored_by.met (crewing c.args.crew.now c.args.storing.now) c.loop.invariant.hands_on c.in-Some-stored_by.ensures

pub returns-then-is_settled : goal.returns-then-is_settled
returns-then-is_settled g c = record {
  hands_on = hands_on_by_two c.loop.invariant.hands_on
      (hands_on_by_round (words_of g.T.Tail g.L.Link g.W.Wire g.D.Disk) c.args.context c.disk_images_are_counted.ensures.reads c.disk_images_are_counted.ensures.counts
      c.loop.crew c.settle-round.new.self c.loop.storing c.settle-round.new.storing c.settle-round.result c.settle-round.ensures.settles c.settle-round.ensures.keeps None c.in_default.ensures);
  by = tt;
  settled = c.if-is_settled.ensures.settled;
  counted = c.settle-round.ensures.keeps.counted;
}
