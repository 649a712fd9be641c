use Rattle.rounds.specs.Crewing.{crewing}
use Rattle.rounds.specs.Words.{disk_words, link_words, tail_words, wire_words, words}
use Rattle.rounds.proofs.Ready.{can_meet}
use Rattle.rounds.proofs.crew.Crew.make_round.Goals as goal

pub meet-requires-clause-have : goal.meet-requires-clause-have
meet-requires-clause-have g c κs within =
    can_meet (words (tail_words g.T.Tail.numbers g.T.Tail.told g.T.Tail.faults) (link_words g.L.Link.told g.L.Link.faults g.L.Link.idles) (wire_words g.W.Wire.outcomes g.W.Wire.open_links g.W.Wire.faults g.W.Wire.idles) (disk_words g.D.Disk.contents g.D.Disk.images g.D.Disk.moment g.D.Disk.images_since g.D.Disk.faults))
    c.args.shift.outlets.queue.now c.args.shift.outlets.desk.now c.args.shift.when (crewing c.args.self.now c.args.storing.now) (crewing c.run.new.self c.run.new.storing) c.run.ensures c.requires.ready
