use Rattle.std.proofs.Common.{◌-◌}
use Rattle.watched_files.specs.Parts.{Misses}
use Rattle.watched_files.specs.Watching.{KeepsSlots}
use Rattle.watched_files.proofs.scan_steps.miss_unshown.Given as goal

abbrev pub invariant-slots : goal.invariant-slots
invariant-slots l =
    Misses l.number l.prospector.files l.next l.initial.deeds.items l.deeds.items l.from l.initial.table l.table
    × KeepsSlots l.initial.table l.table

abbrev pub decreases-slots : goal.decreases-slots
decreases-slots l = l.next - l.from
