use Rattle.run_steps.specs.Goes.{step_words}
use Rattle.run_steps.proofs.ChangeSteps.{ends_are_changes, renames_are_changes, stirs_are_changes, stirs_are_steps}
use Rattle.run_steps.proofs.SeenChange.{moments_are_changes}
use Rattle.run_steps.proofs.laws.changes_are_steps.Goals as goal

pub returns-clause-stirs : goal.returns-clause-stirs
returns-clause-stirs g c context slot now lanes ready change =
    stirs_are_changes (step_words g.F.Folder g.F.Tail.Tail g.L.Link g.W.Wire g.D.Disk g.K.Clock g.B.Bell) context slot now lanes ready change

pub returns-clause-stirs_go : goal.returns-clause-stirs_go
returns-clause-stirs_go g c context slot now lanes ready change =
    stirs_are_steps (step_words g.F.Folder g.F.Tail.Tail g.L.Link g.W.Wire g.D.Disk g.K.Clock g.B.Bell) context slot now lanes ready change

pub returns-clause-ends : goal.returns-clause-ends
returns-clause-ends g c context slot now lanes ready ends =
    ends_are_changes (step_words g.F.Folder g.F.Tail.Tail g.L.Link g.W.Wire g.D.Disk g.K.Clock g.B.Bell) context slot now lanes ready ends

pub returns-clause-renames : goal.returns-clause-renames
returns-clause-renames g c context name now lanes keeper ready names =
    renames_are_changes (step_words g.F.Folder g.F.Tail.Tail g.L.Link g.W.Wire g.D.Disk g.K.Clock g.B.Bell) c.disk_images_are_counted.ensures.reads c.disk_images_are_counted.ensures.counts
    context name now lanes keeper ready names

pub returns-clause-moments : goal.returns-clause-moments
returns-clause-moments g c context slot entry now keeper ready seen =
    moments_are_changes (step_words g.F.Folder g.F.Tail.Tail g.L.Link g.W.Wire g.D.Disk g.K.Clock g.B.Bell) c.disk_images_are_counted.ensures.reads c.disk_images_are_counted.ensures.counts
    context slot entry now keeper ready seen
