use Rattle.std.proofs.Common.{rules, arith}
use Rattle.report.proofs.Parts.{part_step}
use Rattle.report.proofs.write.write_all.Goals as goal

pub loop-left-preserved : goal.loop-left-preserved
loop-left-preserved g c = record {
  faults = search rules;
  told = part_step _ _ _ _ _ _ _ (omega arith) c.loop-left.invariant.told (rw c.in_ok-count.was at c.write.ensures.told);
}
