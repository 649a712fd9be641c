use Rattle.std.proofs.Common.{◌≡◌, take, drop}
use Rattle.event_tree.specs.Tree.{value_of}
use Rattle.processors_core.specs.Missing.{missing_from, missing_of}
use Rattle.processors_core.proofs.drop_fields.first_missing.Given as goal

abbrev pub invariant-loop-i : goal.invariant-loop-i
invariant-loop-i l = missing_from (take l.i l.paths) (drop l.i l.paths) (value_of l.tree) ≡ missing_of l.paths (value_of l.tree)
