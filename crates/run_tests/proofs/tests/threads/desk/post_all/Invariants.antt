use Rattle.std.proofs.Common.{◌≡◌, ◌≤◌}
use Rattle.run_tests.proofs.tests.threads.desk.post_all.Given as goal

abbrev pub invariant-loop : goal.invariant-loop
invariant-loop g l = (l.pass.desk ≡ l.initial.pass.desk) × (l.pass.share ≡ l.initial.pass.share) × (l.place ≤ 1000)
