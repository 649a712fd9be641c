use Rattle.run_steps.specs.Goes.{step_words}
use Rattle.run_steps.proofs.FollowingSteps.{begins_to_follow_on, closing_goes}
use Rattle.run_steps.proofs.laws.following_goes_on.Goals as goal

pub returns-clause-begins : goal.returns-clause-begins
returns-clause-begins g c context now ready = begins_to_follow_on (step_words g.F.Folder g.F.Tail.Tail g.L.Link g.W.Wire g.D.Disk g.K.Clock g.B.Bell) context now ready

pub returns-clause-closes : goal.returns-clause-closes
returns-clause-closes g c context now folder lanes ready closes =
    closing_goes (step_words g.F.Folder g.F.Tail.Tail g.L.Link g.W.Wire g.D.Disk g.K.Clock g.B.Bell) context now ready folder lanes closes
