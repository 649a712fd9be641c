use Rattle.std.proofs.Common.{◌≡◌, map, drop}
use Rattle.event_tree.specs.Tree.{value_of}
use Rattle.processors_core.specs.Pairs.{pair_of}
use Rattle.processors_core.specs.Renamed.{pairs_renamed}
use Rattle.processors_core.proofs.rename.Renames.move_all.Given as goal

-- the pairs that are left make of this tree what all make of the first one, which is before the first pair
abbrev pub invariant-loop-pair : goal.invariant-loop-pair
invariant-loop-pair l = record {
  so_far : pairs_renamed l.self.ignore_missing l.self.fail_on_error (map pair_of (drop l.pair-index l.self.pairs.items)) (value_of l.tree)
      ≡ pairs_renamed l.self.ignore_missing l.self.fail_on_error (map pair_of l.self.pairs.items) (value_of l.initial.tree);
  at_first : l.pair-index ≡ 0 → value_of l.tree ≡ value_of l.initial.tree;
}
