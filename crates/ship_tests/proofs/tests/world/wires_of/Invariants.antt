use Rattle.std.proofs.Common.{◌≡◌, vec_len}
use Rattle.ship_tests.proofs.tests.world.wires_of.Given as goal

abbrev pub invariant-loop : goal.invariant-loop
invariant-loop l = vec_len l.wires ≡ l.counter
