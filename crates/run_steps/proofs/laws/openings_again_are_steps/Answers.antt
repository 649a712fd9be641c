use Rattle.run_steps.specs.Goes.{step_words}
use Rattle.run_steps.proofs.ReopeningKeeps.{openings_again_keep}
use Rattle.run_steps.proofs.ReopeningSteps.{is_reopening_step}
use Rattle.run_steps.proofs.laws.openings_again_are_steps.Goals as goal

pub returns-clause-steps : goal.returns-clause-steps
returns-clause-steps g c context known result now folder crew keeper may =
    is_reopening_step (step_words g.F.Folder g.F.Tail.Tail g.L.Link g.W.Wire g.D.Disk g.K.Clock g.B.Bell) c.disk_images_are_counted.ensures.reads c.disk_images_are_counted.ensures.counts
    context known result now folder crew keeper may

pub returns-clause-keeps : goal.returns-clause-keeps
returns-clause-keeps g c context known result now folder crew keeper ready may =
    openings_again_keep (step_words g.F.Folder g.F.Tail.Tail g.L.Link g.W.Wire g.D.Disk g.K.Clock g.B.Bell) context known result now folder crew keeper ready may
