use Rattle.std.proofs.Common.{drop, flat_map}
use Rattle.watched_files.specs.Parts.{Tells}
use Rattle.watched_files.specs.Telling.{shown_events}
use Rattle.watched_files.specs.Watching.{KeepsSlots}
use Rattle.watched_files.proofs.scan_steps.show_all.Given as goal

abbrev pub invariant-loop-member : goal.invariant-loop-member
invariant-loop-member l =
    Tells (flat_map (shown_events l.number l.prospector.files) l.seen) (flat_map (shown_events l.number l.prospector.files) (drop l.member-index l.seen)) l.initial.table l.table
    × KeepsSlots l.initial.table l.table
