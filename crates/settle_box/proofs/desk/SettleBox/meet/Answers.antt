use Rattle.std.proofs.Common.{ap, sym, ◌∙◌, subst}
use Rattle.pass_sums.specs.Share.{IsWhole}
use Rattle.pass_sums.proofs.Shares.{begins_whole, whole_before, whole_behind}
use Rattle.settle_box.specs.declared.rule.Hand.{Hand}
use Rattle.settle_box.specs.Poster.{Poster}
use Rattle.settle_box.proofs.Moves.{totals}
use Rattle.settle_box.proofs.Passing.{joins, moves_out, sides}
use Rattle.settle_box.proofs.desk.SettleBox.meet.Goals as goal

pub another-all_collected-requires-clause-rule : goal.another-all_collected-requires-clause-rule
another-all_collected-requires-clause-rule c = moves_out _ _

pub absorb-requires-clause-rule : goal.absorb-requires-clause-rule
absorb-requires-clause-rule c = joins _ _ _ _ c.post.invariant.collects

pub learn_as-requires-clause-rule : goal.learn_as-requires-clause-rule
learn_as-requires-clause-rule c =
    let moved = c.another-all_collected.ensures.rule.1 in
    let is = c.absorb.ensures.rule in
    let posts = subst (λ (p : Poster). IsWhole p.share) (sym c.post.view_is) c.requires.the_only_one_that_posts in
    let collects = ap (λ (y : Hand). y.collects) moved ∙ c.collect.invariant.may in
    totals _ _
    (subst (λ (y : Hand). IsWhole y.posts) (sym is) (whole_before _ _ posts (ap (λ (y : Hand). y.posts) moved ∙ c.collect.invariant.posts)))
    (subst (λ (y : Hand). IsWhole y.collects) (sym is) (whole_behind _ _ c.post.invariant.collects (subst IsWhole (sym collects) begins_whole)))

pub another-requires-clause-rule : goal.another-requires-clause-rule
another-requires-clause-rule c = sides _ _
