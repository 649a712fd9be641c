use Rattle.std.proofs.Common.{◌≡◌, true}
use Rattle.memory_tests.proofs.tests.rows.tell.Given as goal

-- the machine runs, and the notes that are kept are its own
abbrev pub invariant-loop-step : goal.invariant-loop-step
invariant-loop-step g l = (l.told.world.runs ≡ true) × (l.told.world.notes ≡ l.told.notes.items)
