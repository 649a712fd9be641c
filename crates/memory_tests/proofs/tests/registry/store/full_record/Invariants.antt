use Rattle.std.specs.Prelude.{All}
use Rattle.wire_base.specs.Ranges.{IsOp}
use Rattle.memory_tests.proofs.tests.registry.store.full_record.Given as goal

abbrev pub invariant-loop-first : goal.invariant-loop-first
invariant-loop-first g l = All IsOp l.ops.items
