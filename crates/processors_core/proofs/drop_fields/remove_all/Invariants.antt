use Rattle.std.proofs.Common.{◌≡◌, true, drop}
use Rattle.event_tree.specs.Tree.{value_of}
use Rattle.processors_core.specs.Dropped.{fields_dropped}
use Rattle.processors_core.proofs.drop_fields.remove_all.Given as goal

-- the paths that are left make of this tree what all make of the first one
abbrev pub invariant-loop-path : goal.invariant-loop-path
invariant-loop-path l = fields_dropped true (drop l.path-index l.paths) (value_of l.tree) ≡ fields_dropped true l.paths (value_of l.initial.tree)
