use Rattle.std.proofs.Common.{◌≡◌, ◌+◌, ◌*◌, drop}
use Rattle.event_tree.specs.Paths.{map_of}
use Rattle.event_tree.specs.Size.{value_size}
use Rattle.event_tree.specs.Tree.{value_of}
use Rattle.processors_core.specs.Over.{put_over}
use Rattle.processors_core.proofs.fields.+merge.Given as goal

-- what a map holds is smaller than the map
abbrev pub decreases-merged_value : goal.decreases-merged_value
decreases-merged_value l = 2 * value_size (value_of l.value.now) + 1

abbrev pub decreases-put_over : goal.decreases-put_over
decreases-put_over l = 2 * value_size (map_of l.members.now)

abbrev pub invariant-put_over-loop-i : goal.invariant-put_over-loop-i
invariant-put_over-loop-i l = put_over (drop l.i l.members) l.fields ≡ put_over l.members l.initial.fields
