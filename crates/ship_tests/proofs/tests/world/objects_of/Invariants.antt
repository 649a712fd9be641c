use Rattle.std.proofs.Common.{◌≡◌, vec_len}
use Rattle.ship_tests.proofs.tests.world.objects_of.Given as goal

abbrev pub invariant-loop-object : goal.invariant-loop-object
invariant-loop-object l = vec_len l.objects.wires ≡ 16
