use Rattle.std.proofs.Common.{◌≡◌}
use Rattle.run_tests.proofs.tests.threads.queue.take_all.Given as goal

abbrev pub invariant-loop : goal.invariant-loop
invariant-loop g l = (l.pass.queue ≡ l.initial.pass.queue) × (l.pass.share ≡ l.initial.pass.share)
