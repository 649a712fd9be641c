use Rattle.std.proofs.Common.{◌≡◌, map, take}
use Rattle.conditions.specs.Tests.{pattern_test}
use Rattle.conditions.proofs.rule_tests.pattern_tests.Given as goal

abbrev pub invariant-loop-one : goal.invariant-loop-one
invariant-loop-one l = l.tests.items ≡ map pattern_test (take l.one-index l.patterns)
