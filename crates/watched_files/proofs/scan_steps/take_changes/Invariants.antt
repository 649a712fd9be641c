use Rattle.std.proofs.Common.{drop, flat_map}
use Rattle.watched_files.specs.Parts.{Asks}
use Rattle.watched_files.specs.Telling.{change_events}
use Rattle.watched_files.specs.Watching.{KeepsSlots}
use Rattle.watched_files.proofs.scan_steps.take_changes.Given as goal

abbrev pub invariant-loop-change : goal.invariant-loop-change
invariant-loop-change l =
    Asks (flat_map (change_events l.number l.clean l.prospector.files) l.changes) (flat_map (change_events l.number l.clean l.prospector.files) (drop l.change-index l.changes))
    l.initial.deeds.items l.deeds.items l.initial.table l.table
    × KeepsSlots l.initial.table l.table
