use Rattle.run_steps.specs.Beginning.{beginning, file_of}
use Rattle.run_steps.specs.BeginsAll.{came_of}
use Rattle.rounds.specs.WordsOf.{tails_of}
use Rattle.run_steps.proofs.BeginningLists.{failed_one, followed_one, skipped_one}
use Rattle.run_steps.proofs.beginning.begin_or_pass.Goals as goal

pub returns-in-Ok-Followed-clause-begun : goal.returns-in-Ok-Followed-clause-begun
returns-in-Ok-Followed-clause-begun g c =
    followed_one (tails_of g.F.Tail.Tail) c.args.context.settings.now (file_of c.args.opening) (came_of c.args.begun.now)
    (beginning g.F.Folder c.args.folder.now c.args.crew.now c.args.keeper.now)
    (beginning g.F.Folder c.begin_one.new.folder c.begin_one.new.crew c.begin_one.new.keeper)
    (rw c.in-Ok-Followed.field-0-is at c.in-Ok-Followed.ensures)

pub returns-in_ok-pass_over-in-Ok-Skipped-clause-begun :
    goal.returns-in_ok-pass_over-in-Ok-Skipped-clause-begun
returns-in_ok-pass_over-in-Ok-Skipped-clause-begun g c =
    skipped_one (tails_of g.F.Tail.Tail) c.args.context.settings.now (file_of c.args.opening) (came_of c.args.begun.now)
    (beginning g.F.Folder c.args.folder.now c.args.crew.now c.args.keeper.now)
    (beginning g.F.Folder c.begin_one.new.folder c.begin_one.new.crew c.begin_one.new.keeper)
    c.in-Ok-Skipped.why c.pass_over.new.passed.items c.in_ok-pass_over-in-Ok-Skipped.ensures.passed
    (rw c.in-Ok-Skipped.field-0-is at c.in-Ok-Skipped.ensures)

pub returns-in-Ok-Failed-clause-begun : goal.returns-in-Ok-Failed-clause-begun
returns-in-Ok-Failed-clause-begun g c =
    failed_one (tails_of g.F.Tail.Tail) c.args.context.settings.now (file_of c.args.opening) (came_of c.args.begun.now)
    (beginning g.F.Folder c.args.folder.now c.args.crew.now c.args.keeper.now)
    (beginning g.F.Folder c.begin_one.new.folder c.begin_one.new.crew c.begin_one.new.keeper)
    (rw c.in-Ok-Failed.field-0-is at c.in-Ok-Failed.ensures)
