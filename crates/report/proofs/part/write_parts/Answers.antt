use Rattle.std.proofs.Common.{rules}
use Rattle.report.specs.Part.{part_bytes}
use Rattle.report.proofs.Eaches.{flat_map_at}
use Rattle.report.proofs.Writings.{continues_failed, continues_then}
use Rattle.report.proofs.part.write_parts.Goals as goal

pub returns-in_err-write_part-clause-told : goal.returns-in_err-write_part-clause-told
returns-in_err-write_part-clause-told g c =
    continues_failed _ _ _ _ _ _ _ _ _ c.from_residual.ensures.0 c.loop-part.invariant.told
    (flat_map_at part_bytes c.args.parts.now c.loop-part.part-index c.part-item.result c.loop-part-test.true c.part-item.is)
    (rw c.in_err-write_part.was at c.write_part.ensures.told)

pub loop-part-preserved : goal.loop-part-preserved
loop-part-preserved g c = record {
  faults = search rules;
  told = continues_then _ _ _ _ _ _ _ c.loop-part.invariant.told
      (flat_map_at part_bytes c.args.parts.now c.loop-part.part-index c.part-item.result c.loop-part-test.true c.part-item.is)
      (rw c.in_ok-write_part.was at c.write_part.ensures.told);
}
