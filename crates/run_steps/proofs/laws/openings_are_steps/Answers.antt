use Rattle.run_steps.specs.Goes.{step_words}
use Rattle.run_steps.proofs.OpeningSteps.{is_opening_step, openings_keep_ready}
use Rattle.run_steps.proofs.laws.openings_are_steps.Goals as goal

pub returns-clause-steps : goal.returns-clause-steps
returns-clause-steps g c context file result now folder crew keeper may =
    is_opening_step (step_words g.F.Folder g.F.Tail.Tail g.L.Link g.W.Wire g.D.Disk g.K.Clock g.B.Bell) c.disk_images_are_counted.ensures.reads c.disk_images_are_counted.ensures.counts
    context file result now folder crew keeper may

pub returns-clause-ready : goal.returns-clause-ready
returns-clause-ready g c context file result now folder crew keeper begins ready =
    openings_keep_ready (step_words g.F.Folder g.F.Tail.Tail g.L.Link g.W.Wire g.D.Disk g.K.Clock g.B.Bell) context file result now folder crew keeper begins ready
