use Rattle.std.proofs.Common.{◌≡◌, ◌+◌, drop, option_map}
use Rattle.event_tree.specs.Tree.{value_of}
use Rattle.event_tree.specs.Paths.{blocked_at}
use Rattle.event_tree.proofs.tree.Tree.blocked.Given as goal

-- what blocks the rest of the path from here blocks the whole path
abbrev pub invariant-loop-i : goal.invariant-loop-i
invariant-loop-i l = option_map (λ part. l.i + part) (blocked_at (drop l.i l.parts) (value_of l.here)) ≡ blocked_at l.parts (value_of l.self)
