use Rattle.findings.proofs.Unreads.{unread_more}
use Rattle.findings.proofs.seeing.see_unread.Goals as goal

pub loop-one-preserved : goal.loop-one-preserved
loop-one-preserved g c = unread_more _ _ _ c.one-item.result _ _ c.loop-one-test.true c.one-item.is c.loop-one.invariant c.in_ok-put_unread.ensures
