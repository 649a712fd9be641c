use Rattle.std.proofs.Common.{ap, sym, ◌∙◌, arith}
use Rattle.pass_sums.proofs.Each.{both_empty, none_together}
use Rattle.pass_sums.proofs.Weights.{weigh-append}
use Rattle.crossbeam_queue.specs.Passes.{view}
use Rattle.settle_box.specs.declared.rule.Hand.{Hand}
use Rattle.settle_box.specs.declared.sender.Sender.{Sender}
use Rattle.settle_box.specs.Senders.{posts_of}
use Rattle.std.proofs.Common.{length}
use Rattle.settle_box.proofs.Passing.{joins}
use Rattle.settle_box.proofs.Told.{still_named}
use Rattle.settle_box.proofs.desk.SettleBox.join_post.Goals as goal

pub absorb-requires-clause-rule : goal.absorb-requires-clause-rule
absorb-requires-clause-rule c = joins _ _ _ _ c.into.invariant.collects

pub invariant_of-into : goal.invariant_of-into
invariant_of-into c =
    let is = c.absorb.ensures.rule in
    let senders = ap (λ (y : Hand). y.senders) is in record {
      no_slot_out = c.absorb.ensures.queue.2 ∙ c.into.invariant.no_slot_out;
      may = λ none. c.into.invariant.may (both_empty _ _ (sym (ap (λ (y : Hand). y.posts) is) ∙ none)).0;
      named = still_named (view c.into.inside.pass).senders _ _ senders c.into.invariant.named;
      collects = ap (λ (y : Hand). y.collects) is ∙ none_together _ _ c.into.invariant.collects c.from.invariant.collects;
      got = ap (λ (y : Hand). y.got) is ∙ none_together _ _ c.into.invariant.got c.from.invariant.got;
      not_closed = ap (λ (y : Hand). y.rest) is;
      counted = omega (
        arith,
        c.saturating_add-into-inside.ensures,
        c.into.invariant.counted,
        c.from.invariant.counted,
        ap posts_of senders,
        weigh-append (λ (s : Sender). length s.posted) (view c.into.inside.pass).senders (view c.from.inside.pass).senders,
      );
    }
