use Rattle.std.proofs.Common.{drop}
use Rattle.watched_files.specs.Parts.{Tells}
use Rattle.watched_files.specs.Telling.{began_events}
use Rattle.watched_files.proofs.scan_steps.begin_files.Given as goal

abbrev pub invariant-loop-begin : goal.invariant-loop-begin
invariant-loop-begin l = Tells (began_events l.rows l.begins) (began_events l.rows (drop l.begin-index l.begins)) l.initial.table l.table
