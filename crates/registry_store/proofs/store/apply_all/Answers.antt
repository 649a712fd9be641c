use Rattle.std.proofs.Common.{◌∙◌, List, ap, sym, take, arith}
use Rattle.wire_base.specs.declared.row.Row.{Row}
use Rattle.ship_core.specs.Replay.{after_op, replay_on}
use Rattle.registry_store.specs.Committing.{AreAfterSome}
use Rattle.registry_store.proofs.Appended.{applied_more, some_refused}
use Rattle.registry_store.proofs.store.apply_all.Goals as goal

pub returns-in_err-copy_of-clause-some : goal.returns-in_err-copy_of-clause-some
returns-in_err-copy_of-clause-some c =
    let some : AreAfterSome c.args.rows.now c.args.ops.now c.loop-op.rows = record { count = c.loop-op.op-index; within = c.loop-op.invariant.within; replayed = sym c.loop-op.invariant.so_far } in
    some_refused c.from_residual.result (AreAfterSome c.args.rows.now c.args.ops.now c.loop-op.rows) some

pub loop-op-preserved : goal.loop-op-preserved
loop-op-preserved c = record {
  so_far = c.in_ok-apply.ensures.applied ∙ ap (λ (rows : List Row). after_op rows c.in_ok-copy_of.field-0) c.loop-op.invariant.so_far ∙ ap (after_op (replay_on c.args.rows.now (take c.loop-op.op-index c.args.ops.now))) c.in_ok-copy_of.ensures
      ∙ sym (applied_more c.args.rows.now c.args.ops.now c.loop-op.op-index c.op-item.result c.loop-op-test.true c.op-item.is);
  within = omega arith;
}
