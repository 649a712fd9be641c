use Rattle.std.proofs.Common.{inl, refl, ◌∙◌, arith}
use Rattle.prospect.proofs.Trying.{ends_at_glob, fail_more_later, tries_next, tries_nothing}
use Rattle.prospect.proofs.Unfinished.{on_err}
use Rattle.prospect.proofs.listings.try_globs.Goals as goal

pub loop-glob-init : goal.loop-glob-init
loop-glob-init g c = record { tries = tries_nothing _ _ _; failed = inl refl; untold = λ none. none; open_tails = refl; faults = omega arith }

pub loop-glob-preserved : goal.loop-glob-preserved
loop-glob-preserved g c = record {
  tries = tries_next _ _ c.glob-item.result _ _ _ _ _ _ _ _ c.in_ok-try_glob.ensures.faults_never_fall c.loop-glob-test.true c.glob-item.is c.loop-glob.invariant.tries c.in_ok-try_glob.ensures.tried;
  failed = fail_more_later _ _ _ _ _ _ c.in_ok-try_glob.ensures.faults_never_fall c.loop-glob.invariant.failed c.loop-glob.invariant.faults c.in_ok-try_glob.ensures.failed_only_where_faults_rose;
  untold = λ none. c.in_ok-try_glob.ensures.untold (c.loop-glob.invariant.untold none);
  open_tails = c.in_ok-try_glob.ensures.open_tails_kept ∙ c.loop-glob.invariant.open_tails;
  faults = omega (arith, c.loop-glob.invariant.faults, c.in_ok-try_glob.ensures.faults_never_fall);
}

pub returns-in_err-try_glob-clause-some : goal.returns-in_err-try_glob-clause-some
returns-in_err-try_glob-clause-some g c =
    on_err _ _ (ends_at_glob _ _ c.glob-item.result _ _ _ _ _ _ _ c.try_glob.ensures.faults_never_fall c.loop-glob-test.true c.glob-item.is c.loop-glob.invariant.tries c.in_err-try_glob.ensures.some)

pub returns-in_err-try_glob-clause-failed_only_where_faults_rose : goal.returns-in_err-try_glob-clause-failed_only_where_faults_rose
returns-in_err-try_glob-clause-failed_only_where_faults_rose g c =
    fail_more_later _ _ _ _ _ _ c.try_glob.ensures.faults_never_fall c.loop-glob.invariant.failed c.loop-glob.invariant.faults c.try_glob.ensures.failed_only_where_faults_rose
