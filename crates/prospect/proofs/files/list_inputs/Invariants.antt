use Rattle.std.proofs.Common.{◌≡◌, ◌≤◌, take}
use Rattle.prospect.specs.Entries.{Lists}
use Rattle.prospect.specs.Readings.{globs_read}
use Rattle.prospect.proofs.files.list_inputs.Given as goal

abbrev pub invariant-loop-input : goal.invariant-loop-input
invariant-loop-input g l = record {
  lists : Lists (globs_read (take l.input-index l.inputs)) (g.F.Folder.told l.initial.folder) l.initial.entries l.entries (g.F.Folder.told l.folder);
  open_tails : g.F.Folder.open_tails l.folder ≡ g.F.Folder.open_tails l.initial.folder;
  faults : g.F.Folder.faults l.initial.folder ≤ g.F.Folder.faults l.folder;
}
