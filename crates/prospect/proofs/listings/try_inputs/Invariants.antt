use Rattle.std.proofs.Common.{◌≡◌, ◌≤◌, None, take}
use Rattle.prospect.specs.Readings.{globs_read}
use Rattle.prospect.specs.Trying.{FailMoreOnlyByFaults, TriesMore}
use Rattle.prospect.proofs.listings.try_inputs.Given as goal

abbrev pub invariant-loop-input : goal.invariant-loop-input
invariant-loop-input g l = record {
  tries : TriesMore (globs_read (take l.input-index l.inputs)) (g.F.Folder.told l.initial.folder) l.initial.tried l.tried (g.F.Folder.faults l.folder) (g.F.Folder.told l.folder);
  failed : FailMoreOnlyByFaults l.initial.tried.failed.items l.tried.failed.items (g.F.Folder.faults l.initial.folder) (g.F.Folder.faults l.folder);
  untold : g.F.Folder.told l.initial.folder ≡ None → g.F.Folder.told l.folder ≡ None;
  open_tails : g.F.Folder.open_tails l.folder ≡ g.F.Folder.open_tails l.initial.folder;
  faults : g.F.Folder.faults l.initial.folder ≤ g.F.Folder.faults l.folder;
}
