use Rattle.std.proofs.Common.{◌+◌, ◌*◌, length}
use Rattle.event_tree.proofs.+put.Given as goal

-- a map hands on one part less
abbrev pub decreases-fields::Fields::put_below : goal.decreases-fields::Fields::put_below
decreases-fields::Fields::put_below l = 2 * length l.later.now + 1

abbrev pub decreases-tree::Tree::put_parts : goal.decreases-tree::Tree::put_parts
decreases-tree::Tree::put_parts l = 2 * length l.parts.now
