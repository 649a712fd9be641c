use Rattle.std.proofs.Common.{inl}
use Rattle.spool_queue.specs.Sent.{HasFault}
use Rattle.spool_queue.specs.Silence.{IsUnanswered}
use Rattle.spool_queue.proofs.Causes.{link_talk, lost_over}
use Rattle.spool_queue.proofs.Links.{fresh_link, link_refused, no_link, sends_nothing, sends_over}
use Rattle.spool_queue.proofs.Settlings.{settles_none}
use Rattle.spool_queue.proofs.sending.send_linked.Goals as goal

pub returns-in_err-host-clause-sends : goal.returns-in_err-host-clause-sends
returns-in_err-host-clause-sends g c =
    sends_nothing g.D.Disk _ _ _ _ _ (settles_none g.D.Disk _ _ (g.met.D.Disk.only_now c.args.disk.now)) (no_link _)

pub returns-in_default-clause-sends : goal.returns-in_default-clause-sends
returns-in_default-clause-sends g c =
    sends_nothing g.D.Disk _ _ _ _ _ (settles_none g.D.Disk _ _ (g.met.D.Disk.only_now c.args.disk.now)) (link_refused g.W.Link.Link.told _ _ c.in_default.field-0 _ c.in_default.ensures.told)

pub send_over-answer-requires-clause-fresh : goal.send_over-answer-requires-clause-fresh
send_over-answer-requires-clause-fresh g c = fresh_link g.W.Link.Link.told _ _ c.in-Ok.link _ c.in-Ok.ensures.told

pub returns-clause-sends : goal.returns-clause-sends
returns-clause-sends g c =
    sends_over g.D.Disk g.W.Link.Link.told _ _ _ _ _ _ _ c.in-Ok.link _ _ _ _ c.send_over-answer.result c.in-Ok.ensures.told c.finish.ensures.told c.send_over-answer.ensures.sends

pub returns-in_default-clause-unreachable : goal.returns-in_default-clause-unreachable
returns-in_default-clause-unreachable g c = λ same. inl c.in_default.ensures.failed_only_where_faults_rose

pub returns-clause-unreachable : goal.returns-clause-unreachable
returns-clause-unreachable g c = λ same.
    lost_over _ _ _ _ _ _ _ _ _ _ _ _ _ _ c.in-Ok.ensures.starts_with_no_count.faults c.in-Ok.ensures.starts_with_no_count.idles c.in-Ok.ensures.faults_never_fall c.in-Ok.ensures.idles_never_fall c.finish.ensures.counts_faults c.finish.ensures.counts_idles
    (link_talk g.W.Link.Link.told HasFault _ _ _ c.in-Ok.link _ _ _ _ c.in-Ok.ensures.told c.finish.ensures.told)
    (λ (unanswered, passed). record { unanswered = link_talk g.W.Link.Link.told IsUnanswered _ _ _ c.in-Ok.link _ _ _ _ c.in-Ok.ensures.told c.finish.ensures.told unanswered; passed = passed })
    (c.send_over-answer.ensures.unreachable same)
