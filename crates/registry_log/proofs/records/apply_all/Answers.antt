use Rattle.std.proofs.Common.{List, [], ◌∷◌, sym, ap, ◌∙◌}
use Rattle.wire_base.specs.declared.row.Row.{Row}
use Rattle.ship_core.specs.Replay.{after_op}
use Rattle.registry_log.proofs.ReadOn.{replay_on-append}
use Rattle.registry_log.proofs.records.apply_all.Goals as goal

pub loop-op-preserved : goal.loop-op-preserved
loop-op-preserved c =
    c.in_ok-apply.ensures.applied ∙ ap (λ (l : List Row). after_op l c.in-Some.op) c.loop-op.invariant ∙ sym (replay_on-append c.args.rows.now c.loop-op.yielded (c.in-Some.op ∷ []))
