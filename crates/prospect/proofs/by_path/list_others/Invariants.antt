use Rattle.std.proofs.Common.{map, take}
use Rattle.prospect.specs.Covered.{AddsCovered, pair_of}
use Rattle.prospect.specs.Readings.{reading_of}
use Rattle.prospect.proofs.by_path.list_others.Given as goal

abbrev pub invariant-loop-entry : goal.invariant-loop-entry
invariant-loop-entry l = record {
  covered : AddsCovered (map (λ entry. pair_of entry (reading_of l.input)) (take l.entry-index l.others)) l.initial.listed.items l.listed.items;
}
