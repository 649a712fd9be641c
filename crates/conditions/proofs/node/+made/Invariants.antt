use Rattle.std.proofs.Common.{◌≡◌, ◌+◌, ◌*◌, map, take}
use Rattle.event_tree.specs.Value.{TreeValue}
use Rattle.conditions.specs.Holds.{holds}
use Rattle.conditions.specs.Truth.{truth_of}
use Rattle.conditions.proofs.node.+made.Given as goal

-- each call has one level less
abbrev pub decreases-Node::of : goal.decreases-Node::of
decreases-Node::of l = 2 * l.levels

abbrev pub decreases-nodes_of : goal.decreases-nodes_of
decreases-nodes_of l = 2 * l.levels + 1

abbrev pub invariant-nodes_of-loop-i : goal.invariant-nodes_of-loop-i
invariant-nodes_of-loop-i l = (tree : TreeValue) → map (λ node. truth_of node tree) l.nodes.items ≡ map (λ rule. holds rule tree) (take l.i l.rules)
