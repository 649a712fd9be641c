use Rattle.std.proofs.Common.{refl, ◌∙◌, arith}
use Rattle.prospect.proofs.Adding.{lists_next_input, lists_nothing}
use Rattle.prospect.proofs.Unfinished.{ends_at_input, on_err}
use Rattle.prospect.proofs.files.list_inputs.Goals as goal

pub loop-input-init : goal.loop-input-init
loop-input-init g c = record { lists = lists_nothing _ _; open_tails = refl; faults = omega arith }

pub loop-input-preserved : goal.loop-input-preserved
loop-input-preserved g c = record {
  lists = lists_next_input _ _ c.input-item.result _ _ _ _ _ _ c.loop-input-test.true c.input-item.is c.loop-input.invariant.lists (rw c.deref.ensures.value at c.in_ok-list_globs.ensures.listed);
  open_tails = c.in_ok-list_globs.ensures.open_tails_kept ∙ c.loop-input.invariant.open_tails;
  faults = omega (arith, c.loop-input.invariant.faults, c.in_ok-list_globs.ensures.faults_never_fall);
}

pub returns-in_err-list_globs-clause-lists_some : goal.returns-in_err-list_globs-clause-lists_some
returns-in_err-list_globs-clause-lists_some g c =
    on_err _ _ (ends_at_input _ _ c.input-item.result _ _ _ _ _ c.loop-input-test.true c.input-item.is c.loop-input.invariant.lists (rw c.deref.ensures.value at c.in_err-list_globs.ensures.lists_some))
