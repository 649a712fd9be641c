use Rattle.std.proofs.Common.{◌≡◌, ◌≤◌, None, take}
use Rattle.prospect.specs.Trying.{FailMoreOnlyByFaults, TriesMore}
use Rattle.prospect.proofs.listings.try_globs.Given as goal

abbrev pub invariant-loop-glob : goal.invariant-loop-glob
invariant-loop-glob g l = record {
  tries : TriesMore (take l.glob-index l.globs) (g.F.Folder.told l.initial.folder) l.initial.tried l.tried (g.F.Folder.faults l.folder) (g.F.Folder.told l.folder);
  failed : FailMoreOnlyByFaults l.initial.tried.failed.items l.tried.failed.items (g.F.Folder.faults l.initial.folder) (g.F.Folder.faults l.folder);
  untold : g.F.Folder.told l.initial.folder ≡ None → g.F.Folder.told l.folder ≡ None;
  open_tails : g.F.Folder.open_tails l.folder ≡ g.F.Folder.open_tails l.initial.folder;
  faults : g.F.Folder.faults l.initial.folder ≤ g.F.Folder.faults l.folder;
}
