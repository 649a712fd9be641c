use Rattle.run_steps.specs.Goes.{step_words}
use Rattle.run_steps.proofs.ScanSteps.{is_scan_step}
use Rattle.run_steps.proofs.laws.scans_again_are_steps.Goals as goal

pub returns : goal.returns
returns g c context scan now folder may =
    is_scan_step (step_words g.F.Folder g.F.Tail.Tail g.L.Link g.W.Wire g.D.Disk g.K.Clock g.B.Bell) context scan now folder may
