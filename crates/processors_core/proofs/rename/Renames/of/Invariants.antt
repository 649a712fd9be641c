use Rattle.std.proofs.Common.{◌≡◌, map, take}
use Rattle.processors_core.specs.Pairs.{pair_of}
use Rattle.processors_core.proofs.rename.Renames.of.Given as goal

abbrev pub invariant-loop-pair : goal.invariant-loop-pair
invariant-loop-pair l = map pair_of l.named.items ≡ take l.pair-index l.pairs
