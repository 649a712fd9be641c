use Rattle.rounds.specs.Crewing.{crewing}
use Rattle.rounds.specs.Words.{disk_words, link_words, tail_words, wire_words, words}
use Rattle.rounds.proofs.Clauses.{round_keeps}
use Rattle.rounds.proofs.LastSteps.{posts_counted}
use Rattle.rounds.proofs.crew.Crew.round.Goals as goal

pub returns-clause-keeps : goal.returns-clause-keeps
returns-clause-keeps g c =
    round_keeps (words (tail_words g.T.Tail.numbers g.T.Tail.told g.T.Tail.faults) (link_words g.L.Link.told g.L.Link.faults g.L.Link.idles) (wire_words g.W.Wire.outcomes g.W.Wire.open_links g.W.Wire.faults g.W.Wire.idles) (disk_words g.D.Disk.contents g.D.Disk.images g.D.Disk.moment g.D.Disk.images_since g.D.Disk.faults))
    c.args.outlets.queue.now c.args.outlets.desk.now c.args.when (crewing c.args.self.now c.args.storing.now) (crewing c.make_round.new.self c.make_round.new.storing) c.make_round.result c.make_round.ensures c.requires.ready

pub returns-clause-counted : goal.returns-clause-counted
returns-clause-counted g c =
    posts_counted c.args.outlets.queue.now.id c.args.outlets.desk.now.id c.make_round.ensures.mid (crewing c.make_round.new.self c.make_round.new.storing) c.make_round.ensures.meets
