use Rattle.std.proofs.Common.{◌∷◌, [], ◌++◌, List, Option, sym, ap, ◌∙◌}
use Rattle.std.specs.BTreeMap.{get}
use Rattle.std.proofs.lemmas.Option.{get_or_from_slice_get, slice_get_within}
use Rattle.prospect.specs.declared.listed.Listed.{Listed}
use Rattle.wire_base.specs.KeyOrder.{compare}
use Rattle.file_progress.specs.Progress.{of_row}
use Rattle.file_progress.specs.declared.progress.Progress.{Progress}
use Rattle.file_progress.proofs.Lists.{mapped_more}
use Rattle.file_progress.proofs.joining.of_rows.Goals as goal

pub loop-i-preserved : goal.loop-i-preserved
loop-i-preserved c =
    let rows = c.args.rows.now in
    let row = c.at-row.result.now in
    let told = c.loop-i.told.items in
    c.in_ok-push.ensures.items
    ∙ ap (λ (x : Progress). told ++ x ∷ []) (c.in_ok-of_row.ensures ∙ ap (λ (o : Option Listed). of_row row o) c.get.ensures.value)
    ∙ mapped_more rows c.loop-i.i row (slice_get_within rows c.loop-i.i row c.at-row.ensures.at) (sym (get_or_from_slice_get rows c.loop-i.i row row c.at-row.ensures.at))
    (λ r. of_row r (get compare c.args.found.now r.key)) told c.loop-i.invariant
