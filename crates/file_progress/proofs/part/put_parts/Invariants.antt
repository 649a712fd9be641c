use Rattle.std.proofs.Common.{◌≡◌, ◌++◌, flat_map, take}
use Rattle.file_progress.specs.Parts.{part_bytes}
use Rattle.file_progress.proofs.part.put_parts.Given as goal

abbrev pub invariant-loop-part : goal.invariant-loop-part
invariant-loop-part l = l.page.items ≡ l.initial.page.items ++ flat_map part_bytes (take l.part-index l.parts)
