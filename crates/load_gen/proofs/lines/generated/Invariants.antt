use Rattle.std.proofs.Common.{◌≡◌}
use Rattle.load_gen.specs.Generated.{generated_text}
use Rattle.load_gen.proofs.lines.generated.Given as goal

abbrev pub invariant-loop-number : goal.invariant-loop-number
invariant-loop-number l = l.bytes.items ≡ generated_text l.number
