use Rattle.std.proofs.Common.{◌≡◌, take}
use Rattle.ship_core.proofs.rows.Rows.copy.Given as goal

-- the rows so far are copied
abbrev pub invariant-loop-row : goal.invariant-loop-row
invariant-loop-row l = l.rows.items ≡ take l.row-index l.row-items
