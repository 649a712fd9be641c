use Rattle.std.proofs.Common.{◌≡◌, drop}
use Rattle.event_tree.specs.Tree.{value_of}
use Rattle.event_tree.specs.Paths.{get_at}
use Rattle.event_tree.proofs.tree.Tree.get.Given as goal

-- the rest of the path leads from here to where the whole path leads
abbrev pub invariant-loop-part : goal.invariant-loop-part
invariant-loop-part l = get_at (drop l.part-index l.part-items) (value_of l.here) ≡ get_at l.part-items (value_of l.self)
