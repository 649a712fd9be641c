use Rattle.std.proofs.Common.{◌≡◌, map, take}
use Rattle.conditions.specs.Tests.{presence_test}
use Rattle.conditions.proofs.rule_tests.presence_tests.Given as goal

abbrev pub invariant-loop-path : goal.invariant-loop-path
invariant-loop-path l = l.tests.items ≡ map presence_test (take l.path-index l.paths)
