-- The truth value of a condition whose paths are read and whose patterns are compiled, level by level (Filebeat
-- reference, conditions).
use Rattle.std.specs.Prelude.{Bool, not}
use Rattle.std.specs.List.{list_all, list_any}
use Rattle.event_tree.specs.Value.{TreeValue}
use Rattle.conditions.specs.Tests.{is_passed}
use Rattle.conditions.specs.declared.node.Node.{Node}
use Rattle.conditions.specs.declared.node.Node.TheOpen.{Node-F}
use Rattle.conditions.specs.declared.node.Node.TheFolds.{fold-Node}

-- one level, with the truth value of each condition below it in its place
abbrev pub level_truth : Node-F (TreeValue → Bool) → TreeValue → Bool
level_truth (Node-F.Each tests) tree = list_all (λ test. is_passed test tree) tests.items
level_truth (Node-F.And nodes) tree = list_all (λ node. node tree) nodes.items
level_truth (Node-F.Or nodes) tree = list_any (λ node. node tree) nodes.items
level_truth (Node-F.Not node) tree = not (node.value tree)

abbrev pub truth_of : Node → TreeValue → Bool
truth_of = fold-Node (TreeValue → Bool) level_truth
