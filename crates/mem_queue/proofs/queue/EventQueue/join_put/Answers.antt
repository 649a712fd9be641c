use Rattle.std.proofs.Common.{ap, sym, ◌∙◌}
use Rattle.pass_sums.proofs.Each.{both_empty, none_together}
use Rattle.mem_queue.specs.declared.rule.Hand.{Hand}
use Rattle.mem_queue.proofs.Passing.{joins}
use Rattle.mem_queue.proofs.queue.EventQueue.join_put.Goals as goal

pub absorb-requires-clause-rule : goal.absorb-requires-clause-rule
absorb-requires-clause-rule c = joins _ _ _ _

pub invariant_of-into : goal.invariant_of-into
invariant_of-into c =
    let is = c.absorb.ensures.rule in record {
      no_slot_out = c.absorb.ensures.queue.2 ∙ c.into.invariant.no_slot_out;
      may = λ none. c.into.invariant.may (both_empty _ _ (sym (ap (λ (y : Hand). y.puts) is) ∙ none)).0;
      takes = ap (λ (y : Hand). y.takes) is ∙ none_together _ _ c.into.invariant.takes c.from.invariant.takes;
      taken = ap (λ (y : Hand). y.taken) is ∙ none_together _ _ c.into.invariant.taken c.from.invariant.taken;
      not_closed = ap (λ (y : Hand). y.rest) is;
    }
