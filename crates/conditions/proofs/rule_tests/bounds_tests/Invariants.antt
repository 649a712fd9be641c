use Rattle.std.proofs.Common.{◌≡◌, map, take}
use Rattle.conditions.specs.Tests.{bounds_test}
use Rattle.conditions.proofs.rule_tests.bounds_tests.Given as goal

abbrev pub invariant-loop-bounds : goal.invariant-loop-bounds
invariant-loop-bounds l = l.tests.items ≡ map bounds_test (take l.bounds-index l.ranges)
