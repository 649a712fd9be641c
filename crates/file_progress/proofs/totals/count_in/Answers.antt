use Rattle.std.proofs.Common.{◌≡◌, ℕ, Bool, ◌+◌, if◌then◌else◌, take, sym, ap, ◌∙◌, arith, length-take}
use Rattle.file_progress.proofs.Sums.{count_few, counted_more}
use Rattle.file_progress.proofs.totals.count_in.Goals.{else-is_state, then-is_state}
use Rattle.file_progress.proofs.totals.count_in.Goals as goal

pub overflow_add-count : goal.overflow_add-count
overflow_add-count c =
    omega (arith, c.loop-one.invariant, count_few c.args.state (take c.loop-one.one-index c.args.files.now), length-take c.loop-one.one-index c.args.files.now, c.loop-one-test.true, c.loop-one.auto.one-index-end)

pub loop-one-preserved : goal.loop-one-preserved
loop-one-preserved c =
    let more : c.if-is_state.count ≡ c.loop-one.count + (if c.is_state.result then 1 else 0) = elim c.if-is_state.branch [
      | then-is_state w ↦ w.count-is ∙ ap (λ (b : Bool). c.loop-one.count + (if b then 1 else 0)) (sym w.if-is_state.true)
      | else-is_state w ↦ omega (arith, w.count-is, ap {B = ℕ} (λ (b : Bool). if b then 1 else 0) w.if-is_state.false)
    ] in
    counted_more c.args.files.now c.loop-one.one-index c.one-item.result c.loop-one-test.true c.one-item.is c.args.state c.is_state.result c.loop-one.count c.if-is_state.count
    c.is_state.ensures c.loop-one.invariant more
