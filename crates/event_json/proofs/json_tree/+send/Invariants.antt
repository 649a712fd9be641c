use Rattle.std.proofs.Common.{◌+◌, ◌*◌, drop}
use Rattle.serde.specs.Event.{Log}
use Rattle.serde_json.specs.Events.{SendsItems, SendsMembers}
use Rattle.event_tree.specs.Paths.{map_of}
use Rattle.event_tree.specs.Size.{value_size}
use Rattle.event_tree.specs.Tree.{value_of}
use Rattle.event_tree.specs.Value.{list, as_values, as_members}
use Rattle.event_json.specs.Data.{items_of, members_of}
use Rattle.event_json.proofs.json_tree.+send.Given as goal

-- what a value holds is smaller than the value
abbrev pub decreases-send : goal.decreases-send
decreases-send g l = 2 * value_size (value_of l.tree.now) + 1

abbrev pub decreases-send_trees : goal.decreases-send_trees
decreases-send_trees g l = 2 * value_size (list (as_values l.trees.now))

abbrev pub decreases-send_fields : goal.decreases-send_fields
decreases-send_fields g l = 2 * value_size (map_of l.fields.now)

-- whatever ends it well from here ends it well from the start
abbrev pub invariant-send_trees-loop-i : goal.invariant-send_trees-loop-i
invariant-send_trees-loop-i g l =
    (end : Log) → SendsItems (items_of (as_values (drop l.i l.trees))) (g.S.Serializer.written l.out) end → SendsItems (items_of (as_values l.trees)) (g.S.Serializer.written l.initial.out) end

abbrev pub invariant-send_fields-loop-i : goal.invariant-send_fields-loop-i
invariant-send_fields-loop-i g l =
    (end : Log) → SendsMembers (members_of (as_members (drop l.i l.fields))) (g.S.Serializer.written l.out) end → SendsMembers (members_of (as_members l.fields)) (g.S.Serializer.written l.initial.out) end
