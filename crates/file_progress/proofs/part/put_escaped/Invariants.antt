use Rattle.std.proofs.Common.{◌≡◌, ◌++◌, flat_map, take}
use Rattle.file_progress.specs.Parts.{label_escape}
use Rattle.file_progress.proofs.part.put_escaped.Given as goal

abbrev pub invariant-loop-byte : goal.invariant-loop-byte
invariant-loop-byte l = l.page.items ≡ l.initial.page.items ++ flat_map label_escape (take l.byte-index l.bytes)
