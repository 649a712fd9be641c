use Rattle.std.proofs.Common.{rules, arith, ◌∙◌}
use Rattle.std.proofs.lemmas.List.Filters.{dedup_is}
use Rattle.std.proofs.lemmas.List.{take_all}
use Rattle.std.proofs.lemmas.List.Sorted.{answers_always}
use Rattle.report.proofs.Ordered.{passings_rank, told_once}
use Rattle.report.proofs.text.in_order.Goals as goal

pub returns : goal.returns
returns c =
    told_once (λ passing. passing.now) _ (λ one other same. search rules) (λ one other same. search rules) c.args.passed.now c.loop-passing.ordered.items c.sort_unstable_by.new.self.items _
    (c.loop-passing.invariant ∙ take_all c.loop-passing.passing-index c.args.passed.now (omega arith)) c.sort_unstable_by.ensures.permutation
    (c.sort_unstable_by.ensures.sorted _ (passings_rank (λ passing. passing.now)) (answers_always _ _ _ (λ f a r left called. search rules)))
    (dedup_is _ _ _ c.dedup.ensures.filtered)
