use Rattle.std.proofs.Common.{◌≡◌, ◌++◌, map, take}
use Rattle.file_progress.specs.Table.{shown_byte}
use Rattle.file_progress.proofs.table.put_shown.Given as goal

abbrev pub invariant-loop-byte : goal.invariant-loop-byte
invariant-loop-byte l = l.page.items ≡ l.initial.page.items ++ map shown_byte (take l.byte-index l.bytes)
