use Rattle.std.proofs.Common.{◌≡◌, true, false, take}
use Rattle.std.specs.List.{list_all, list_any}
use Rattle.event_tree.specs.Tree.{value_of}
use Rattle.conditions.specs.Truth.{truth_of}
use Rattle.conditions.proofs.node.+asked.Given as goal

abbrev pub invariant-all_hold-loop-i : goal.invariant-all_hold-loop-i
invariant-all_hold-loop-i l = list_all (λ node. truth_of node (value_of l.tree)) (take l.i l.nodes) ≡ true

abbrev pub invariant-some_hold-loop-i : goal.invariant-some_hold-loop-i
invariant-some_hold-loop-i l = list_any (λ node. truth_of node (value_of l.tree)) (take l.i l.nodes) ≡ false
