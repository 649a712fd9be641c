use Rattle.std.proofs.Common.{◌≡◌, take}
use Rattle.event_tree.specs.Tree.{values_of, pairs_of}
use Rattle.event_tree.proofs.+copy.Given as goal

abbrev pub invariant-fields::Fields::copy-loop-key : goal.invariant-fields::Fields::copy-loop-key
invariant-fields::Fields::copy-loop-key l = pairs_of l.entries.items ≡ pairs_of (take l.key-index l.key-items)

abbrev pub invariant-trees::Trees::copy-loop-tree : goal.invariant-trees::Trees::copy-loop-tree
invariant-trees::Trees::copy-loop-tree l = values_of l.trees.items ≡ values_of (take l.tree-index l.tree-items)
