use Rattle.std.proofs.Common.{◌≤◌, length, take}
use Rattle.prospector_core.specs.Changes.{new_members}
use Rattle.watched_files.proofs.scan_steps.count_new.Given as goal

abbrev pub invariant-loop-member : goal.invariant-loop-member
invariant-loop-member l = (length (new_members l.prospector.files (take l.member-index l.seen)) ≤ l.count) × (l.count ≤ l.member-index)
