use Rattle.std.proofs.Common.{sym}
use Rattle.event_tree.proofs.Steps.{get_ends, get_goes_on}
use Rattle.event_tree.proofs.tree.Tree.get.Goals as goal

-- the part is absent
pub returns-in_err-here : goal.returns-in_err-here
returns-in_err-here c =
    rw (c.from_residual.ensures, ← c.parts-part-items.ensures.parts) (get_ends _ _ _ c.loop-part-test.true c.part-item.is _ _ c.in-Map.is (sym c.in_err-here.ensures) _ c.loop-part.invariant)

-- the part is there
pub loop-part-preserved : goal.loop-part-preserved
loop-part-preserved c =
    get_goes_on _ _ _ c.loop-part-test.true c.part-item.is _ _ c.in-Map.is c.in_ok-here.here.now (sym c.in_ok-here.ensures) _ c.loop-part.invariant
