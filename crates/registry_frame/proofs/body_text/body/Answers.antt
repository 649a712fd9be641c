use Rattle.std.proofs.Common.{◌∙◌, ap, map, arith, subst}
use Rattle.std.proofs.lemmas.List.{take_all}
use Rattle.std.proofs.lemmas.Grind.{common_steps}
use Rattle.std.proofs.lemmas.List.Elements.{All-more}
use Rattle.registry_frame.specs.Body.{operation_bytes}
use Rattle.registry_frame.specs.BodyOf.{IsStoredOp}
use Rattle.registry_frame.proofs.body_text.body.Goals as goal

pub loop-op-preserved : goal.loop-op-preserved
loop-op-preserved c = record {
  written = grind (arith, common_steps);
  stored = All-more IsStoredOp c.args.ops.now c.loop-op.op-index c.op-item.result c.loop-op-test.true c.loop-op.invariant.stored (subst IsStoredOp c.op-item.is c.in_ok-operation_text.ensures.stored);
}

pub returns-clause-spelled : goal.returns-clause-spelled
returns-clause-spelled c =
    c.joined.ensures c.args.ops.now (c.loop-op.invariant.written ∙ ap (map operation_bytes) (take_all c.loop-op.op-index c.args.ops.now (omega arith)))
