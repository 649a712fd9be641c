use Rattle.std.proofs.Common.{inl, refl, ◌∙◌, arith}
use Rattle.prospect.proofs.Trying.{ends_at_input, fail_more_later, tries_next_input, tries_nothing}
use Rattle.prospect.proofs.Unfinished.{on_err}
use Rattle.prospect.proofs.listings.try_inputs.Goals as goal

pub loop-input-init : goal.loop-input-init
loop-input-init g c = record { tries = tries_nothing _ _ _; failed = inl refl; untold = λ none. none; open_tails = refl; faults = omega arith }

pub loop-input-preserved : goal.loop-input-preserved
loop-input-preserved g c = record {
  tries = tries_next_input _ _ c.input-item.result _ _ _ _ _ _ _ _ c.in_ok-try_globs.ensures.faults_never_fall c.loop-input-test.true c.input-item.is c.loop-input.invariant.tries (rw c.deref.ensures.value at c.in_ok-try_globs.ensures.tried);
  failed = fail_more_later _ _ _ _ _ _ c.in_ok-try_globs.ensures.faults_never_fall c.loop-input.invariant.failed c.loop-input.invariant.faults c.in_ok-try_globs.ensures.failed_only_where_faults_rose;
  untold = λ none. c.in_ok-try_globs.ensures.untold (c.loop-input.invariant.untold none);
  open_tails = c.in_ok-try_globs.ensures.open_tails_kept ∙ c.loop-input.invariant.open_tails;
  faults = omega (arith, c.loop-input.invariant.faults, c.in_ok-try_globs.ensures.faults_never_fall);
}

pub returns-in_err-try_globs-clause-some : goal.returns-in_err-try_globs-clause-some
returns-in_err-try_globs-clause-some g c =
    on_err _ _ (ends_at_input _ _ c.input-item.result _ _ _ _ _ _ _ c.try_globs.ensures.faults_never_fall c.loop-input-test.true c.input-item.is c.loop-input.invariant.tries (rw c.deref.ensures.value at c.in_err-try_globs.ensures.some))

pub returns-in_err-try_globs-clause-failed_only_where_faults_rose : goal.returns-in_err-try_globs-clause-failed_only_where_faults_rose
returns-in_err-try_globs-clause-failed_only_where_faults_rose g c =
    fail_more_later _ _ _ _ _ _ c.try_globs.ensures.faults_never_fall c.loop-input.invariant.failed c.loop-input.invariant.faults c.try_globs.ensures.failed_only_where_faults_rose
