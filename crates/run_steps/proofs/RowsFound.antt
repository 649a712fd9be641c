-- Rows that are found by their keys, and rows after operations.
use Rattle.std.proofs.Common.{List, [], ◌∷◌}
use Rattle.ship_core.specs.Replay.{after_op, replay_on}
use Rattle.ship_core.specs.Rows.{IsInOrder, key_of}
use Rattle.wire_base.proofs.Keyed.{in_order-with, in_order-without}
use Rattle.wire_base.specs.declared.row.Op.{Op}
use Rattle.wire_base.specs.declared.row.Op.TheVariants.{Remove, Set}
use Rattle.wire_base.specs.declared.row.Row.{Row}

pub ordered_after : (rows : List Row) (ops : List Op) → IsInOrder rows → IsInOrder (replay_on rows ops)
ordered_after rows [] ordered = ordered
ordered_after rows (op ∷ ops) ordered = ordered_after (after_op rows op) ops (after_one op)
  where
    after_one : (one : Op) → IsInOrder (after_op rows one)
    after_one (Set row) = in_order-with key_of row rows ordered
    after_one (Remove key) = in_order-without key_of key rows ordered
