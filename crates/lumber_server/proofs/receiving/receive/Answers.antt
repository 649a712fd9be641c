use Rattle.std.proofs.Common.{Some, arith, ap, rules, ◌∙◌}
use Rattle.lumber_server.specs.AskedWords.{asked_value}
use Rattle.lumber_answers.proofs.Sending.{takes_nothing}
use Rattle.lumber_server.proofs.Visiting.{none_served, nothing_taken, one_more_served, rose_from, run_ends, run_is_done, run_without}
use Rattle.lumber_server.proofs.receiving.receive.Goals as goal

pub returns-in_default-clause-receives : goal.returns-in_default-clause-receives
returns-in_default-clause-receives g c = run_without _ _ _ _ _ _ _ (takes_nothing _) (λ e. cc)

pub returns-in-Err-clause-receives : goal.returns-in-Err-clause-receives
returns-in-Err-clause-receives g c = run_without _ _ _ _ _ _ _ (nothing_taken _ _ _ c.write.ensures.told) (λ e. cc)

pub loop-before-init : goal.loop-before-init
loop-before-init g c = record {
  served = none_served _ _ _ _ _ (nothing_taken _ _ _ c.write.ensures.told);
  faults = c.write.ensures.faults_never_fall;
  port_faults = omega arith;
  rings = omega arith;
}

pub loop-before-preserved : goal.loop-before-preserved
loop-before-preserved g c =
    let next = c.serve_next.ensures.next in
    record {
      served = one_more_served _ _ _ _ _ _ _ _ _ _ _ _ _ c.serve_next.ensures.idles_never_fall c.loop-before.invariant.served (rw c.in_default-serve_next.is at next);
      faults = search rules;
      port_faults = search rules;
      rings = search rules;
    }

pub returns-in-Some-serve_next-clause-receives : goal.returns-in-Some-serve_next-clause-receives
returns-in-Some-serve_next-clause-receives g c =
    let next = c.serve_next.ensures.next in
    run_ends _ _ _ _ _ _ _ _ _ _ _ _ _ _ _ c.serve_next.ensures.idles_never_fall c.loop-before.invariant.served (rw c.in-Some-serve_next.is at next)

pub returns-in-Some-serve_next-clause-out_fault_only_where_sink_faults_rose : goal.returns-in-Some-serve_next-clause-out_fault_only_where_sink_faults_rose
returns-in-Some-serve_next-clause-out_fault_only_where_sink_faults_rose g c e =
    rose_from _ _ _ c.loop-before.invariant.faults (c.serve_next.ensures.out_fault_only_where_sink_faults_rose (c.in-Some-serve_next.is ∙ ap Some e))

pub returns-in-Some-serve_next-clause-port_fault_only_where_port_faults_rose : goal.returns-in-Some-serve_next-clause-port_fault_only_where_port_faults_rose
returns-in-Some-serve_next-clause-port_fault_only_where_port_faults_rose g c e =
    rose_from _ _ _ c.loop-before.invariant.port_faults (c.serve_next.ensures.port_fault_only_where_port_faults_rose (c.in-Some-serve_next.is ∙ ap Some e))

pub returns-in-Some-serve_next-clause-stopped_only_where_it_rang : goal.returns-in-Some-serve_next-clause-stopped_only_where_it_rang
returns-in-Some-serve_next-clause-stopped_only_where_it_rang g c e =
    rose_from _ _ _ c.loop-before.invariant.rings (c.serve_next.ensures.stopped_only_where_it_rang (c.in-Some-serve_next.is ∙ ap Some e))

pub returns-clause-receives : goal.returns-clause-receives
returns-clause-receives g c =
    let words = c.asked.ensures in
    run_is_done _ _ (asked_value c.in-Some.asked) _ _ (rw c.in-Some.is at words) (omega arith) c.loop-before.invariant.served
