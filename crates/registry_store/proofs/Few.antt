-- How many rows there are while operations are applied.
use Rattle.std.proofs.Common.{ℕ, suc, ◌+◌, ◌≤◌, Bool, true, false, if◌then◌else◌, List, [], ◌∷◌, length, take, subst, arith}
use Rattle.std.proofs.lemmas.List.{length-take-le, take_all}
use Rattle.std.specs.Ordering.{is_eq, match_ordering}
use Rattle.std.specs.declared.cmp.Ordering.{Ordering}
use Rattle.std.specs.declared.cmp.Ordering.TheVariants.{Less, Equal, Greater}
use Rattle.wire_base.specs.KeyOrder.{compare}
use Rattle.wire_base.specs.declared.row.Row.{Row}
use Rattle.wire_base.specs.declared.row.Op.{Op}
use Rattle.wire_base.specs.declared.row.Op.TheVariants.{Set, Remove}
use Rattle.ship_core.specs.Replay.{after_op, replay_on, with_row, without_row}
use Rattle.registry_store.specs.Committing.{AreFewThroughout}

with_row_adds : (row : Row) (rows : List Row) → length (with_row row rows) ≤ length rows + 1
with_row_adds row [] = omega arith
with_row_adds row (other ∷ rows) = by_order (compare row.key other.key) (with_row_adds row rows)
  where
    by_order : (o : Ordering) → length (with_row row rows) ≤ length rows + 1 → length (match_ordering o (row ∷ other ∷ rows) (row ∷ rows) (other ∷ with_row row rows)) ≤ suc (length rows) + 1
    by_order Less later = omega arith
    by_order Equal later = omega arith
    by_order Greater later = omega (arith, later)

without_row_adds_none : (key : List ℕ) (rows : List Row) → length (without_row key rows) ≤ length rows
without_row_adds_none key [] = omega arith
without_row_adds_none key (row ∷ rows) = by_test (is_eq (compare key row.key)) (without_row_adds_none key rows)
  where
    by_test : (same : Bool) → length (without_row key rows) ≤ length rows → length (if same then without_row key rows else row ∷ without_row key rows) ≤ suc (length rows)
    by_test true later = omega (arith, later)
    by_test false later = omega (arith, later)

after_op_adds : (rows : List Row) (op : Op) → length (after_op rows op) ≤ length rows + 1
after_op_adds rows (Set row) = with_row_adds row rows
after_op_adds rows (Remove key) = let fewer = without_row_adds_none key rows in omega (arith, fewer)

replay_adds : (rows : List Row) (ops : List Op) → length (replay_on rows ops) ≤ length rows + length ops
replay_adds rows [] = omega arith
replay_adds rows (op ∷ ops) = let first = after_op_adds rows op in let later = replay_adds (after_op rows op) ops in omega (arith, first, later)

pub few_by_length : (rows : List Row) (ops : List Op) → length rows + length ops ≤ 65_536 → AreFewThroughout rows ops
few_by_length rows ops few = λ count within.
    let added = replay_adds rows (take count ops) in
    let taken = length-take-le count ops within in
    omega (arith, added, taken, few, within)

pub few_at_the_end : (rows : List Row) (ops : List Op) → AreFewThroughout rows ops → length (replay_on rows ops) ≤ 65_536
few_at_the_end rows ops few =
    subst (λ (l : List Op). length (replay_on rows l) ≤ 65_536) (take_all (length ops) ops (omega arith)) (few (length ops) (omega arith))
