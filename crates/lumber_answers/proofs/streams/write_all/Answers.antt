use Rattle.std.proofs.Common.{rules, arith}
use Rattle.lumber_answers.proofs.Sending.{part_written}
use Rattle.lumber_answers.proofs.streams.write_all.Goals as goal

pub loop-left-preserved : goal.loop-left-preserved
loop-left-preserved g c = record {
  faults = search rules;
  part = part_written _ _ _ _ _ _ _ (omega arith) c.loop-left.invariant.part (rw c.in_ok-count.was at c.write.ensures.told);
}
