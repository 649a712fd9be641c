use Rattle.std.proofs.Common.{ap, set, sym, ◌∙◌}
use Rattle.std.proofs.lemmas.List.Edits.{map_over_more}
use Rattle.prospector_core.specs.declared.marks.Watched.{Watched}
use Rattle.prospector_core.specs.Marks.{cleared}
use Rattle.prospector_core.proofs.marks.clear_marks.Goals as goal

pub loop-one-preserved : goal.loop-one-preserved
loop-one-preserved c =
    ap (λ (one : Watched). set c.loop-one.watched c.loop-one.one-index (cleared one)) (sym c.one-item.is)
    ∙ map_over_more cleared c.args.watched.now c.loop-one.watched c.loop-one.one-index c.one-item.result c.loop-one-test.true c.loop-one.invariant c.one-item.is
