use Rattle.std.proofs.Common.{◌<◌, length, sym, ap, ◌∙◌, arith}
use Rattle.outside_mem.proofs.Making.{read_more}
use Rattle.outside_mem.proofs.script.Script.read.Goals as goal

pub loop-step-preserved : goal.loop-step-preserved
loop-step-preserved c =
    let steps_are = c.deref-step-items.ensures.value in
    let within : c.loop-step.step-index < length c.args.self.now.file.steps.items = omega (arith, ap length steps_are) in
    let is = rw steps_are at c.step-item.is in
    read_more c.args.listings c.args.calls c.args.at c.args.self.now.file.steps.items c.loop-step.step-index c.loop-step.sight _ c.loop-step.into _ c.step-item.result
    within is (sym c.is_made.ensures ∙ c.if-not-is_made.false) c.seen_after-sight.ensures c.show_change.ensures c.loop-step.invariant
