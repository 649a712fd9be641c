use Rattle.findings.proofs.Tries.{tries_more, tries_none}
use Rattle.findings.proofs.seeing.see_hosts.Goals as goal

pub loop-host-init : goal.loop-host-init
loop-host-init g c = rw c.new-trials.ensures.items (tries_none _)

pub loop-host-preserved : goal.loop-host-preserved
loop-host-preserved g c =
    tries_more _ _ _ _ _ c.host-item.result _ _ c.in_ok-try_one.field-0 c.loop-host-test.true c.host-item.is c.loop-host.invariant c.in_ok-try_one.ensures c.in_ok-push.ensures.items
