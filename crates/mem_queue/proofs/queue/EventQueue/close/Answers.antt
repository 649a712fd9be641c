use Rattle.std.proofs.Common.{sym, subst}
use Rattle.pass_sums.specs.Share.{IsWhole}
use Rattle.pass_sums.proofs.Shares.{whole_before, whole_behind}
use Rattle.mem_queue.specs.declared.rule.Hand.{Hand}
use Rattle.mem_queue.specs.Known.{Known}
use Rattle.mem_queue.proofs.Moves.{ends, totals}
use Rattle.mem_queue.proofs.Passing.{joins}
use Rattle.mem_queue.proofs.queue.EventQueue.close.Goals as goal

pub absorb-requires-clause-rule : goal.absorb-requires-clause-rule
absorb-requires-clause-rule g c = joins _ _ _ _

pub pop_as-next-requires-clause-rule : goal.pop_as-next-requires-clause-rule
pop_as-next-requires-clause-rule g c =
    let is = c.absorb.ensures.rule in
    let puts = subst (λ (y : Hand). IsWhole y.puts) (sym is)
    (whole_before _ _ (subst (λ (k : Known). IsWhole k.share) (sym c.put.view_is) c.requires.the_only_two.0) c.take.invariant.puts) in
    let takes = subst (λ (y : Hand). IsWhole y.takes) (sym is)
    (whole_behind _ _ c.put.invariant.takes (subst (λ (k : Known). IsWhole k.share) (sym c.take.view_is) c.requires.the_only_two.1)) in
    (ends _ _ puts takes, totals _ _ puts takes)
