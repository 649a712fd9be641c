use Rattle.run_steps.specs.Beginning.{beginning, file_of}
use Rattle.rounds.specs.WordsOf.{tails_of}
use Rattle.run_steps.proofs.Begun.{follows_by}
use Rattle.run_steps.proofs.begin.follow_one.Goals as goal

pub returns-in-Ok-clause-follows : goal.returns-in-Ok-clause-follows
returns-in-Ok-clause-follows g c =
    follows_by (tails_of g.F.Tail.Tail) c.args.context.settings.now (file_of c.args.opening)
    c.take_in.result c.args.tail c.in-Ok.harvester
    (beginning g.F.Folder c.args.folder.now c.args.crew.now c.args.keeper.now)
    (beginning g.F.Folder c.take_in.new.folder c.take_in.new.crew c.take_in.new.keeper)
    c.in-Ok.ensures.opened c.take_in.ensures.taken
