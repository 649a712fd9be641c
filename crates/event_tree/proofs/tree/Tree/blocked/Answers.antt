use Rattle.std.proofs.Common.{sym}
use Rattle.event_tree.proofs.Steps.{blocked_ends, blocked_goes_on}
use Rattle.event_tree.proofs.tree.Tree.blocked.Goals as goal

-- the part is absent
pub returns-in_err-here : goal.returns-in_err-here
returns-in_err-here c =
    rw c.from_residual.ensures (blocked_ends _ _ _ c.loop-i-test.true c.index-parts-i.is _ _ c.in-Map.is (sym c.in_err-here.ensures) _ c.loop-i.invariant)

-- the part is there
pub loop-i-preserved : goal.loop-i-preserved
loop-i-preserved c =
    blocked_goes_on _ _ _ c.loop-i-test.true c.index-parts-i.is _ _ c.in-Map.is c.in_ok-here.here.now (sym c.in_ok-here.ensures) _ c.loop-i.invariant
