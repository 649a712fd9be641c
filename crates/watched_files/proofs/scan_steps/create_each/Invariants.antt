use Rattle.std.proofs.Common.{Some}
use Rattle.file_table.specs.Entries.{created_entry}
use Rattle.watched_files.specs.Watching.{HasPut}
use Rattle.watched_files.proofs.scan_steps.create_each.Given as goal

abbrev pub invariant-loop-slot : goal.invariant-loop-slot
invariant-loop-slot l = HasPut (Some created_entry) l.first l.slot l.initial.table l.table
