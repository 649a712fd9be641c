use Rattle.std.proofs.Common.{◌≡◌, drop, is_some}
use Rattle.event_tree.specs.Paths.{blocked_at}
use Rattle.event_tree.specs.Tree.{value_of}
use Rattle.processors_core.proofs.fields.is_blocked.Given as goal

-- the rest of the path is blocked from here exactly if the whole path is
abbrev pub invariant-loop-part : goal.invariant-loop-part
invariant-loop-part l = is_some (blocked_at (drop l.part-index l.part-items) (value_of l.here)) ≡ is_some (blocked_at l.part-items (value_of l.tree))
