use Rattle.std.proofs.Common.{rules, arith}
use Rattle.spool_queue.proofs.Sinks.{none_taken, part_taken}
use Rattle.spool_queue.proofs.printing.write_all.Goals as goal

pub pieces-init : goal.pieces-init
pieces-init g c = record { faults = omega arith; part = none_taken _ _ }

pub pieces-preserved : goal.pieces-preserved
pieces-preserved g c = record {
  faults = search rules;
  part = part_taken _ _ _ _ _ _ _ (omega arith) c.pieces.invariant.part (rw c.in_ok-count.was at c.write.ensures.told);
}
