use Rattle.std.proofs.Common.{map, take}
use Rattle.prospect.specs.Covered.{AddsCovered, pairs_with}
use Rattle.prospect.specs.Readings.{reading_of}
use Rattle.prospect.proofs.by_path.list_showing.Given as goal

abbrev pub invariant-loop-input : goal.invariant-loop-input
invariant-loop-input l = record {
  covered : AddsCovered (pairs_with (map reading_of (take l.input-index l.inputs)) l.showing) l.initial.listed.items l.listed.items;
}
