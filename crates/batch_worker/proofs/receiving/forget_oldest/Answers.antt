use Rattle.std.proofs.Common.{◌≡◌, ℕ, suc, ◌-◌, ◌<◌, ◌≤◌, List, [], ◌∷◌, length, drop, arith, ap, refl, sym, ◌∙◌}
use Rattle.wire_base.specs.declared.numbers.Moment.{Moment}
use Rattle.batch_worker.specs.Receiving.{outs_kept}
use Rattle.batch_worker.proofs.receiving.forget_oldest.Goals as goal

kept_less : (outs : List Moment) (kept : ℕ) → kept < length outs → outs_kept (drop 1 outs) kept ≡ outs_kept outs kept
kept_less [] kept less = refl
kept_less (out ∷ outs) kept less =
    let one : suc (length outs) - kept ≡ suc (length outs - kept) = omega (arith, less) in
    sym (ap (λ (n : ℕ). drop n (out ∷ outs)) one)

all_kept : (outs : List Moment) (kept : ℕ) → length outs ≤ kept → outs ≡ outs_kept outs kept
all_kept outs kept few =
    let none : length outs - kept ≡ 0 = omega (arith, few) in
    sym (ap (λ (n : ℕ). drop n outs) none)

pub loop-outs-preserved : goal.loop-outs-preserved
loop-outs-preserved c = (
  ap (λ (l : List Moment). outs_kept l c.args.kept) c.pop_front.ensures.rest ∙ kept_less c.loop-outs.outs.items c.args.kept (omega (arith, c.loop-outs-test.true, c.loop-outs.outs.ok.0)) ∙ c.loop-outs.invariant.0,
  c.pop_front.ensures.capacity ∙ c.loop-outs.invariant.1,
)

pub returns-clause-kept : goal.returns-clause-kept
returns-clause-kept c = all_kept c.loop-outs.outs.items c.args.kept (omega (arith, c.loop-outs-test.false, c.loop-outs.outs.ok.0)) ∙ c.loop-outs.invariant.0
