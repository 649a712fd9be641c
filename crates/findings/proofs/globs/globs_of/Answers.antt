use Rattle.findings.proofs.GlobLists.{of_next}
use Rattle.findings.proofs.globs.globs_of.Goals as goal

pub loop-number-preserved : goal.loop-number-preserved
loop-number-preserved c = of_next _ _ _ _ c.index-inputs-number.result c.loop-number-test.true c.index-inputs-number.is c.loop-number.invariant c.in_ok-add_globs.ensures
