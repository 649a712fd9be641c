use Rattle.std.proofs.Common.{map}
use Rattle.prospect.specs.Covered.{AreCovered, pairs_of}
use Rattle.prospect.specs.Readings.{reading_of}
use Rattle.prospect.proofs.Covering.{showing_by}
use Rattle.prospect.proofs.by_path.list_entries.Given as goal

abbrev pub invariant-loop-path : goal.invariant-loop-path
invariant-loop-path l = record {
  covered : AreCovered (pairs_of (map reading_of l.inputs) (map showing_by l.yielded)) l.listed.items;
}
