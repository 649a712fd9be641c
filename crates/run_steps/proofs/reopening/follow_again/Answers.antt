use Rattle.run_steps.specs.Beginning.{beginning}
use Rattle.run_steps.specs.Reopening.{reopened_of}
use Rattle.rounds.specs.WordsOf.{tails_of}
use Rattle.run_steps.proofs.Reopened.{follows_again_by}
use Rattle.run_steps.proofs.reopening.follow_again.Goals as goal

pub returns-in-Ok-clause-follows : goal.returns-in-Ok-clause-follows
returns-in-Ok-clause-follows g c =
    follows_again_by (tails_of g.F.Tail.Tail) c.args.context.settings.now (reopened_of c.args.reopening)
    c.take_in_again.result c.args.tail c.in-Ok.harvester
    (beginning g.F.Folder c.args.folder.now c.args.crew.now c.args.keeper.now)
    (beginning g.F.Folder c.take_in_again.new.folder c.take_in_again.new.crew c.take_in_again.new.keeper)
    c.in-Ok.ensures.opened c.take_in_again.ensures.taken
