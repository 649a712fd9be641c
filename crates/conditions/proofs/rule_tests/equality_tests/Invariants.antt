use Rattle.std.proofs.Common.{◌≡◌, map, take}
use Rattle.conditions.specs.Tests.{equality_test}
use Rattle.conditions.proofs.rule_tests.equality_tests.Given as goal

abbrev pub invariant-loop-i : goal.invariant-loop-i
invariant-loop-i l = l.tests.items ≡ map equality_test (take l.i l.pairs)
