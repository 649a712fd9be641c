use Rattle.std.proofs.Common.{◌≡◌, ◌++◌, drop, map, take}
use Rattle.prospector_core.specs.Marks.{cleared}
use Rattle.prospector_core.proofs.marks.clear_marks.Given as goal

abbrev pub invariant-loop-one : goal.invariant-loop-one
invariant-loop-one l = l.watched ≡ map cleared (take l.one-index l.initial.watched) ++ drop l.one-index l.initial.watched
