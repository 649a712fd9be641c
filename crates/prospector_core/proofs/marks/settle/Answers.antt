use Rattle.std.proofs.Common.{ap, set, sym, ◌∙◌}
use Rattle.std.proofs.lemmas.List.Edits.{map_over_more}
use Rattle.prospector_core.specs.Marks.{settled_one}
use Rattle.prospector_core.proofs.marks.settle.Goals as goal

pub loop-one-preserved : goal.loop-one-preserved
loop-one-preserved c =
    ap (set c.loop-one.watched c.loop-one.one-index) (c.settle_one.ensures ∙ ap (settled_one c.args.whole) (sym c.one-item.is))
    ∙ map_over_more (settled_one c.args.whole) c.args.watched.now c.loop-one.watched c.loop-one.one-index c.one-item.result c.loop-one-test.true c.loop-one.invariant c.one-item.is
