use Rattle.std.proofs.Common.{◌≡◌, ◌∙◌, ℕ, ◌+◌, ◌-◌, ◌<◌, sym, arith, ap}
use Rattle.ship_core.specs.CoveredEnd.{end_within}
use Rattle.ship_core.specs.RowOver.{notes_of, spans_in}
use Rattle.ship_core.proofs.Passes.{no_more_spans, one_further}
use Rattle.ship_core.proofs.reading.covered_end.Goals as goal

pub loop-i-preserved : goal.loop-i-preserved
loop-i-preserved c =
    let spans = spans_in c.args.epoch (notes_of c.args.slot c.args.notes.now) in
    let left = c.count_of_spans-i-end.result - c.loop-i._i in
    let some : 0 < left = omega (arith, c.loop-i-test.true) in
    let fewer : c.count_of_spans-i-end.result - (c.loop-i._i + 1) ≡ left - 1 = omega arith in
    record {
      left =
          ap (λ (n : ℕ). end_within spans n c.end-end.result) fewer
          ∙ ap (end_within spans (left - 1)) c.end-end.ensures
          ∙ sym (one_further spans left c.loop-i.end c.in-Some.span some (sym c.in-Some.ensures))
          ∙ c.loop-i.invariant.left;
      all = c.loop-i.invariant.all;
    }

pub returns-in-None : goal.returns-in-None
returns-in-None c =
    sym (no_more_spans (spans_in c.args.epoch (notes_of c.args.slot c.args.notes.now)) (c.count_of_spans-i-end.result - c.loop-i._i) c.loop-i.end (sym c.in-None.ensures)) ∙ c.loop-i.invariant.left
