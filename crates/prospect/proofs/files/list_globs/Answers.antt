use Rattle.std.proofs.Common.{refl, ◌∙◌, arith}
use Rattle.prospect.proofs.Adding.{lists_next, lists_nothing}
use Rattle.prospect.proofs.Unfinished.{ends_at_glob, on_err}
use Rattle.prospect.proofs.files.list_globs.Goals as goal

pub loop-glob-init : goal.loop-glob-init
loop-glob-init g c = record { lists = lists_nothing _ _; open_tails = refl; faults = omega arith }

pub loop-glob-preserved : goal.loop-glob-preserved
loop-glob-preserved g c = record {
  lists = lists_next _ _ c.glob-item.result _ _ _ _ _ _ c.loop-glob-test.true c.glob-item.is c.loop-glob.invariant.lists c.in_ok-list_glob.ensures.listed;
  open_tails = c.in_ok-list_glob.ensures.open_tails_kept ∙ c.loop-glob.invariant.open_tails;
  faults = omega (arith, c.loop-glob.invariant.faults, c.in_ok-list_glob.ensures.faults_never_fall);
}

pub returns-in_err-list_glob-clause-lists_some : goal.returns-in_err-list_glob-clause-lists_some
returns-in_err-list_glob-clause-lists_some g c =
    on_err _ _ (ends_at_glob _ _ c.glob-item.result _ _ _ _ _ c.loop-glob-test.true c.glob-item.is c.loop-glob.invariant.lists c.in_err-list_glob.ensures.lists_some)
