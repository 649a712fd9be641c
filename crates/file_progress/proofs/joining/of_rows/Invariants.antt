use Rattle.std.proofs.Common.{◌≡◌, map, take}
use Rattle.std.specs.BTreeMap.{get}
use Rattle.wire_base.specs.KeyOrder.{compare}
use Rattle.file_progress.specs.Progress.{of_row}
use Rattle.file_progress.proofs.joining.of_rows.Given as goal

abbrev pub invariant-loop-i : goal.invariant-loop-i
invariant-loop-i l = l.told.items ≡ map (λ row. of_row row (get compare l.found row.key)) (take l.i l.rows)
