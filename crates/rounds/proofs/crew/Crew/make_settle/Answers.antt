use Rattle.std.proofs.Common.{ap, refl}
use Rattle.rounds.specs.Crewed.{lanings}
use Rattle.rounds.specs.Crewing.{crewing}
use Rattle.rounds.specs.Words.{disk_words, link_words, tail_words, wire_words, words}
use Rattle.rounds.specs.declared.crew.Pace.{Pace}
use Rattle.rounds.proofs.Having.{storing_shut}
use Rattle.rounds.proofs.LastSteps.{can_hand_on, can_meet_settled, handed_then}
use Rattle.rounds.proofs.crew.Crew.make_settle.Goals as goal

pub hand_on-requires-clause-lanes : goal.hand_on-requires-clause-lanes
hand_on-requires-clause-lanes g c κs within =
    can_hand_on (tail_words g.T.Tail.numbers g.T.Tail.told g.T.Tail.faults) c.args.outlets.desk.now.capacity c.args.outlets.queue.now.id c.args.outlets.desk.now.id (lanings c.args.self.now.lanes.items) c.requires.ready.able.lanes

pub meet-requires-clause-have : goal.meet-requires-clause-have
meet-requires-clause-have g c κs within =
    let mid = crewing (record c.hand_on.new.self { pace = record c.hand_on.new.self.pace { without = 0 } }) c.run.new.self in
    can_meet_settled (words (tail_words g.T.Tail.numbers g.T.Tail.told g.T.Tail.faults) (link_words g.L.Link.told g.L.Link.faults g.L.Link.idles) (wire_words g.W.Wire.outcomes g.W.Wire.open_links g.W.Wire.faults g.W.Wire.idles) (disk_words g.D.Disk.contents g.D.Disk.images g.D.Disk.moment g.D.Disk.images_since g.D.Disk.faults))
    c.args.outlets.queue.now c.args.outlets.desk.now (crewing c.args.self.now c.args.storing.now) mid
    (handed_then (link_words g.L.Link.told g.L.Link.faults g.L.Link.idles) c.args.outlets.desk.now.capacity c.args.self.now c.hand_on.new.self (record c.hand_on.new.self.pace { without = 0 }) c.hand_on.ensures.handed)
    (storing_shut (disk_words g.D.Disk.contents g.D.Disk.images g.D.Disk.moment g.D.Disk.images_since g.D.Disk.faults) c.args.storing.now c.run.new.self c.run.ensures)
    c.requires.ready

pub returns : goal.returns
returns g c = record {
  mid = crewing (record c.hand_on.new.self { pace = record c.hand_on.new.self.pace { without = 0 } }) c.run.new.self;
  handed = handed_then (link_words g.L.Link.told g.L.Link.faults g.L.Link.idles) c.args.outlets.desk.now.capacity c.args.self.now c.hand_on.new.self (record c.hand_on.new.self.pace { without = 0 }) c.hand_on.ensures.handed;
  storing = storing_shut (disk_words g.D.Disk.contents g.D.Disk.images g.D.Disk.moment g.D.Disk.images_since g.D.Disk.faults) c.args.storing.now c.run.new.self c.run.ensures;
  room = ap (λ (p : Pace). p.room) c.hand_on.ensures.pace;
  without = refl;
  meets = c.meet.ensures;
  answer = c.of.ensures;
}
