use Rattle.std.proofs.Common.{sym, subst}
use Rattle.pass_sums.specs.Share.{IsWhole}
use Rattle.pass_sums.proofs.Shares.{begins_whole, whole_before, whole_behind}
use Rattle.settle_box.specs.declared.rule.Hand.{Hand}
use Rattle.settle_box.specs.Poster.{Poster}
use Rattle.settle_box.proofs.Moves.{ends, totals}
use Rattle.settle_box.proofs.Passing.{joins}
use Rattle.settle_box.proofs.desk.SettleBox.close.Goals as goal

pub absorb-requires-clause-rule : goal.absorb-requires-clause-rule
absorb-requires-clause-rule g c = joins _ _ _ _ c.post.invariant.collects

pub pop_as-next-requires-clause-rule : goal.pop_as-next-requires-clause-rule
pop_as-next-requires-clause-rule g c =
    let is = c.absorb.ensures.rule in
    let posts = subst (λ (y : Hand). IsWhole y.posts) (sym is)
    (whole_before _ _ (subst (λ (p : Poster). IsWhole p.share) (sym c.post.view_is) c.requires.the_only_one_that_posts) c.collect.invariant.posts) in
    let collects = subst (λ (y : Hand). IsWhole y.collects) (sym is)
    (whole_behind _ _ c.post.invariant.collects (subst IsWhole (sym c.collect.invariant.may) begins_whole)) in
    (ends _ _ posts collects, totals _ _ posts collects)
