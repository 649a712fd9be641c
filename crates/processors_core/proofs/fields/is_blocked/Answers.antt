use Rattle.std.proofs.Common.{sym}
use Rattle.processors_core.proofs.Ways.{way_ends, way_goes_on}
use Rattle.processors_core.proofs.fields.is_blocked.Goals as goal

-- the part is absent
pub returns-in_default-find : goal.returns-in_default-find
returns-in_default-find c =
    rw (← c.parts-part-items.ensures.parts) (way_ends _ _ _ c.loop-part-test.true c.part-item.is _ _ c.in-Map.is (sym c.in_default-find.ensures) _ c.loop-part.invariant)

-- the part is there
pub loop-part-preserved : goal.loop-part-preserved
loop-part-preserved c =
    way_goes_on _ _ _ c.loop-part-test.true c.part-item.is _ _ c.in-Map.is c.in-Some.next.now (sym c.in-Some.ensures) _ c.loop-part.invariant
