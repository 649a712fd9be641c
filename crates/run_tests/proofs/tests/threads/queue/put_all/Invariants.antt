use Rattle.std.proofs.Common.{◌≡◌}
use Rattle.run_tests.proofs.tests.threads.queue.put_all.Given as goal

abbrev pub invariant-loop-place : goal.invariant-loop-place
invariant-loop-place g l = (l.pass.queue ≡ l.initial.pass.queue) × (l.pass.share ≡ l.initial.pass.share)
