use Rattle.run_steps.specs.Goes.{step_words}
use Rattle.run_steps.proofs.ForgetSteps.{forgets_are_steps}
use Rattle.run_steps.proofs.laws.forgets_are_steps.Goals as goal

pub returns : goal.returns
returns g c context file now keeper ready forgets =
    forgets_are_steps (step_words g.F.Folder g.F.Tail.Tail g.L.Link g.W.Wire g.D.Disk g.K.Clock g.B.Bell) c.disk_images_are_counted.ensures.reads c.disk_images_are_counted.ensures.counts
    context file now keeper ready forgets
