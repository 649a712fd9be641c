use Rattle.std.proofs.Common.{◌≡◌, ◌+◌, drop}
use Rattle.beat_config.specs.Host.{name_length}
use Rattle.beat_config.proofs.host.name_length.Given as goal

abbrev pub invariant-loop-byte : goal.invariant-loop-byte
invariant-loop-byte l =
    (l.count ≡ l.byte-index) × (l.count + name_length (drop l.byte-index l.text) ≡ name_length l.text)
