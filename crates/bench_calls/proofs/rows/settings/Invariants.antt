use Rattle.std.specs.Prelude.{All}
use Rattle.wire_base.specs.Ranges.{IsOp}
use Rattle.bench_calls.proofs.rows.settings.Given as goal

abbrev pub invariant-loop-number : goal.invariant-loop-number
invariant-loop-number l = All IsOp l.ops.items
