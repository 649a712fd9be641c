use Rattle.std.proofs.Common.{ap, sym, ◌∙◌, subst}
use Rattle.pass_sums.specs.Share.{IsWhole}
use Rattle.pass_sums.proofs.Shares.{whole_before, whole_behind}
use Rattle.mem_queue.specs.declared.rule.Hand.{Hand}
use Rattle.mem_queue.specs.Known.{Known}
use Rattle.mem_queue.proofs.Moves.{totals}
use Rattle.mem_queue.proofs.Passing.{joins, moves_out, sides}
use Rattle.mem_queue.proofs.queue.EventQueue.meet.Goals as goal

pub another-all_taken-requires-clause-rule : goal.another-all_taken-requires-clause-rule
another-all_taken-requires-clause-rule c = moves_out _ _

pub absorb-requires-clause-rule : goal.absorb-requires-clause-rule
absorb-requires-clause-rule c = joins _ _ _ _

pub learn_as-requires-clause-rule : goal.learn_as-requires-clause-rule
learn_as-requires-clause-rule c =
    let moved = c.another-all_taken.ensures.rule.1 in
    let is = c.absorb.ensures.rule in
    let puts = subst (λ (k : Known). IsWhole k.share) (sym c.put.view_is) c.requires.the_only_two.0 in
    let takes = subst (λ (k : Known). IsWhole k.share) (sym c.take.view_is) c.requires.the_only_two.1 in
    totals _ _
    (subst (λ (y : Hand). IsWhole y.puts) (sym is) (whole_before _ _ puts (ap (λ (y : Hand). y.puts) moved ∙ c.take.invariant.puts)))
    (subst (λ (y : Hand). IsWhole y.takes) (sym is) (whole_behind _ _ c.put.invariant.takes (subst (λ (y : Hand). IsWhole y.takes) (sym moved) takes)))

pub another-requires-clause-rule : goal.another-requires-clause-rule
another-requires-clause-rule c = sides _ _
