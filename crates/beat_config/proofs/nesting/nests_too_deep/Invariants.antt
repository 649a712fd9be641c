use Rattle.std.proofs.Common.{◌≡◌, ◌≤◌, drop}
use Rattle.beat_config.specs.Nesting.{goes_too_deep, nests_too_deep, nesting_of, IsCounted}
use Rattle.beat_config.proofs.nesting.nests_too_deep.Given as goal

abbrev pub invariant-loop-byte : goal.invariant-loop-byte
invariant-loop-byte l =
    (goes_too_deep l.place (nesting_of l.levels) (drop l.byte-index l.bytes) ≡ nests_too_deep l.bytes)
    × (l.levels.count ≤ 80)
    × IsCounted l.levels
