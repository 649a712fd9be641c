use Rattle.std.proofs.Common.{◌≡◌, All, map, take}
use Rattle.prospector_core.specs.KnownFiles.{known_of}
use Rattle.prospector_core.specs.Marks.{Stays, files_of}
use Rattle.prospector_core.proofs.prospector.Prospector.begin.Given as goal

abbrev pub invariant-loop-begin : goal.invariant-loop-begin
invariant-loop-begin l = record {
  files : files_of l.watched.items ≡ map known_of (take l.begin-index l.begins);
  stay : All Stays l.watched.items;
}
