use Rattle.run_steps.specs.Beginning.{beginning}
use Rattle.run_steps.specs.FolderSeen.{seen_in}
use Rattle.run_steps.specs.Reopening.{reopened_of}
use Rattle.rounds.specs.WordsOf.{tails_of}
use Rattle.run_steps.proofs.Reopened.{followed_known}
use Rattle.run_steps.proofs.reopening.open_again.Goals as goal

pub returns-in-Ok-Some-clause-opened : goal.returns-in-Ok-Some-clause-opened
returns-in-Ok-Some-clause-opened g c =
    followed_known (tails_of g.F.Tail.Tail) c.args.context.settings.now (reopened_of c.args.reopening)
    c.in-Ok-Some.tail
    (beginning g.F.Folder c.args.folder.now c.args.crew.now c.args.keeper.now)
    (beginning g.F.Folder c.follow_known.new.folder c.follow_known.new.crew c.follow_known.new.keeper)
    (seen_in g.F.Folder c.open.new.self) c.open.result (record {
      told = c.open.ensures.told;
      states_go_on = c.open.ensures.states_go_on;
      open_tails = c.open.ensures.counts_open_tails;
      fresh = c.open.ensures.starts_without_faults;
      faults_never_fall = c.open.ensures.faults_never_fall;
      failed_only_where_faults_rose = c.open.ensures.failed_only_where_faults_rose;
    }) c.in-Ok-Some.field-0 c.in-Ok-Some.is c.in-Ok-Some.field-0-is
    c.follow_known.result c.follow_known.ensures.follows
