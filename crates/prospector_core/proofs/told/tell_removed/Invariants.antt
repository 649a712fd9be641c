use Rattle.std.proofs.Common.{◌≡◌, ◌++◌, take}
use Rattle.std.specs.Prelude.{flat_map}
use Rattle.prospector_core.specs.Marks.{unseen_removal}
use Rattle.prospector_core.proofs.told.tell_removed.Given as goal

abbrev pub invariant-loop-one : goal.invariant-loop-one
invariant-loop-one l = l.changes.items ≡ l.initial.changes.items ++ flat_map unseen_removal (take l.one-index l.watched)
