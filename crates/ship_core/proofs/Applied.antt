-- What an operation does to rows that are in order and within their ranges.
use Rattle.std.proofs.Common.{ℕ, List}
use Rattle.wire_base.proofs.Keyed.{in_order-with, in_order-without, All-with, All-without}
use Rattle.wire_base.specs.Ranges.{IsRow}
use Rattle.wire_base.specs.declared.row.Row.{Row}
use Rattle.wire_base.specs.declared.row.Op.{Op}
use Rattle.wire_base.specs.declared.row.Op.TheVariants.{Set, Remove}
use Rattle.ship_core.specs.Rows.{key_of, IsInOrder, AreRows}
use Rattle.ship_core.specs.Replay.{with_row, without_row, after_op}

pub rows-with : (row : Row) (rows : List Row) → IsRow row → AreRows rows → AreRows (with_row row rows)
rows-with row rows one are =
    record { in_order = in_order-with key_of row rows are.in_order; in_range = All-with key_of IsRow row rows one are.in_range }

pub rows-without : (key : List ℕ) (rows : List Row) → AreRows rows → AreRows (without_row key rows)
rows-without key rows are =
    record { in_order = in_order-without key_of key rows are.in_order; in_range = All-without key_of IsRow key rows are.in_range }

pub in_order-op : (rows : List Row) (op : Op) → IsInOrder rows → IsInOrder (after_op rows op)
in_order-op rows (Set row) ordered = in_order-with key_of row rows ordered
in_order-op rows (Remove key) ordered = in_order-without key_of key rows ordered
