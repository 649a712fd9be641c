use Rattle.std.proofs.Common.{◌≡◌, IfSome}
use Rattle.wire_base.specs.Ranges.{IsParcel}
use Rattle.run_tests.proofs.tests.threads.queue.put_one.Given as goal

abbrev pub invariant-loop : goal.invariant-loop
invariant-loop g l = (l.pass.queue ≡ l.fn.pass.queue) × (l.pass.share ≡ l.fn.pass.share) × IfSome l.waiting (λ parcel. IsParcel parcel)
