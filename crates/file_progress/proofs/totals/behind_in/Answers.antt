use Rattle.std.proofs.Common.{ℕ, ◌+◌, ◌-◌, ◌^◌, min, ap, ◌∙◌}
use Rattle.file_progress.proofs.Sums.{behind_more}
use Rattle.file_progress.proofs.totals.behind_in.Goals as goal

pub loop-one-preserved : goal.loop-one-preserved
loop-one-preserved c =
    behind_more c.args.files.now c.loop-one.one-index c.one-item.result c.loop-one-test.true c.one-item.is c.loop-one.total c.saturating_add-total.result c.loop-one.invariant
    (c.saturating_add-total.ensures ∙ ap (λ (n : ℕ). min (c.loop-one.total + n) (2 ^ 64 - 1)) c.behind_of.ensures)
