-- Replay of updates (this project's profile): the rows after operations in their order, each of which sets the row of
-- its key in place of an earlier one, its moment of the last change included, or takes it away, or changes nothing if
-- there is none.
use Rattle.std.specs.Prelude.{ℕ, List, [], ◌∷◌}
use Rattle.wire_base.specs.KeyOrder.{with_entry, without_key}
use Rattle.wire_base.specs.declared.row.Row.{Row}
use Rattle.wire_base.specs.declared.row.Op.{Op}
use Rattle.wire_base.specs.declared.row.Op.TheVariants.{Set, Remove}
use Rattle.ship_core.specs.Rows.{key_of}

-- the rows with this one: in place of its key's, or at the place to which its key belongs
abbrev pub with_row : Row → List Row → List Row
with_row = with_entry key_of

-- the rows without the key's
abbrev pub without_row : List ℕ → List Row → List Row
without_row = without_key key_of

-- the rows after one operation
abbrev pub after_op : List Row → Op → List Row
after_op rows (Set row) = with_row row rows
after_op rows (Remove key) = without_row key rows

-- the rows after operations on these rows
abbrev pub replay_on : List Row → List Op → List Row
replay_on rows [] = rows
replay_on rows (op ∷ ops) = replay_on (after_op rows op) ops

-- the rows after operations from the first one on
abbrev pub replay : List Op → List Row
replay ops = replay_on [] ops
