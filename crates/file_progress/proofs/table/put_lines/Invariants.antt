use Rattle.std.proofs.Common.{◌≡◌, ◌++◌, flat_map, take}
use Rattle.file_progress.specs.Table.{line_of}
use Rattle.file_progress.proofs.table.put_lines.Given as goal

abbrev pub invariant-loop-one : goal.invariant-loop-one
invariant-loop-one l = l.page.items ≡ l.initial.page.items ++ flat_map line_of (take l.one-index l.lined)
