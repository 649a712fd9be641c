use Rattle.std.proofs.Common.{◌≡◌, true, take}
use Rattle.std.specs.List.{list_all}
use Rattle.event_tree.specs.Tree.{value_of}
use Rattle.conditions.specs.Tests.{is_passed}
use Rattle.conditions.proofs.node.all_pass.Given as goal

abbrev pub invariant-loop-test : goal.invariant-loop-test
invariant-loop-test l = list_all (λ test. is_passed test (value_of l.tree)) (take l.test-index l.tests) ≡ true
