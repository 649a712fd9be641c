use Rattle.std.proofs.Common.{◌≡◌}
use Rattle.run_tests.proofs.tests.threads.desk.collect_all.Given as goal

abbrev pub invariant-loop : goal.invariant-loop
invariant-loop g l = l.pass.desk ≡ l.initial.pass.desk
