use Rattle.std.proofs.Common.{rules, refl, arith}
use Rattle.lumber_answers.proofs.Sending.{none_sent_yet, part_sent}
use Rattle.lumber_answers.proofs.streams.send_all.Goals as goal

pub loop-left-init : goal.loop-left-init
loop-left-init g c = record { faults = omega arith; idles = omega arith; failed_sends = refl; part = none_sent_yet _ _ }

pub loop-left-preserved : goal.loop-left-preserved
loop-left-preserved g c = record {
  faults = search rules;
  idles = search rules;
  failed_sends = search rules;
  part = part_sent _ _ _ _ _ _ _ (omega arith) c.loop-left.invariant.part (rw c.in_ok-count.was at c.send.ensures.told);
}
