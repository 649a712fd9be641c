use Rattle.std.proofs.Common.{◌<◌, length, sym, ap, ◌∙◌, arith, rules}
use Rattle.outside_mem.proofs.Making.{found_more}
use Rattle.outside_mem.proofs.script.Script.path.Goals as goal

pub loop-index-preserved : goal.loop-index-preserved
loop-index-preserved c =
    let steps_are = c.deref-step-items.ensures.value in
    let within : c.loop-index.index < length c.args.self.now.file.steps.items = omega (arith, ap length steps_are) in
    let is = rw steps_are at c.step-item.is in
    found_more c.args.listings c.args.calls c.args.self.now.file.path c.args.self.now.file.steps.items c.loop-index.index _ _ _ c.step-item.result
    within is (sym c.is_made.ensures ∙ c.if-not-is_made.false) (search rules) (search rules) c.renamed-path.ensures c.loop-index.invariant
