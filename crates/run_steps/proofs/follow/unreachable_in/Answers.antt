use Rattle.std.proofs.Common.{arith, subst, ◌≤◌, ℕ}
use Rattle.run_steps.proofs.Attempts.{failed_at, none_of_all, none_on}
use Rattle.run_steps.proofs.follow.unreachable_in.Goals as goal

pub returns-then-failures-attempts-clause-failed : goal.returns-then-failures-attempts-clause-failed
returns-then-failures-attempts-clause-failed g c =
    failed_at c.args.attempts c.args.carriers.now c.workers.number c.index-carriers-number.result c.workers-test.true c.workers.invariant.none
    (subst (λ (n : ℕ). c.args.attempts ≤ n) c.failures.ensures c.if-failures-attempts.true)

pub workers-preserved : goal.workers-preserved
workers-preserved g c = record {
  within = omega (arith, c.workers-test.true);
  none = none_on c.args.attempts c.args.carriers.now c.workers.number c.index-carriers-number.result c.workers-test.true c.workers.invariant.none
      (omega (arith, c.failures.ensures, c.if-failures-attempts.false));
}

pub returns-clause-none : goal.returns-clause-none
returns-clause-none g c = none_of_all c.args.attempts c.args.carriers.now c.workers.number (omega (arith, c.workers-test.false)) c.workers.invariant.none
