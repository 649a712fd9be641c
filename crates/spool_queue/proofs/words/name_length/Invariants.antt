use Rattle.std.proofs.Common.{◌≡◌, ◌+◌, drop}
use Rattle.spool_queue.specs.Words.{name_length}
use Rattle.spool_queue.proofs.words.name_length.Given as goal

abbrev pub invariant-loop-byte : goal.invariant-loop-byte
invariant-loop-byte l =
    (l.count ≡ l.byte-index) × (l.count + name_length (drop l.byte-index l.text) ≡ name_length l.text)
