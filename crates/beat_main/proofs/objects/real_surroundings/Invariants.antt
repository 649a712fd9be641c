use Rattle.std.proofs.Common.{◌≡◌, vec_len}
use Rattle.beat_main.proofs.objects.real_surroundings.Given as goal

abbrev pub invariant-loop : goal.invariant-loop
invariant-loop g l = vec_len l.wires ≡ l.counter
