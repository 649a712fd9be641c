use Rattle.std.proofs.Common.{◌≡◌, ◌++◌, drop, map, take}
use Rattle.prospector_core.specs.Marks.{settled_one}
use Rattle.prospector_core.proofs.marks.settle.Given as goal

abbrev pub invariant-loop-one : goal.invariant-loop-one
invariant-loop-one l = l.watched ≡ map (settled_one l.whole) (take l.one-index l.initial.watched) ++ drop l.one-index l.initial.watched
