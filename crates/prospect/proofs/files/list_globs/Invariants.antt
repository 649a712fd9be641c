use Rattle.std.proofs.Common.{◌≡◌, ◌≤◌, take}
use Rattle.prospect.specs.Entries.{Lists}
use Rattle.prospect.proofs.files.list_globs.Given as goal

abbrev pub invariant-loop-glob : goal.invariant-loop-glob
invariant-loop-glob g l = record {
  lists : Lists (take l.glob-index l.globs) (g.F.Folder.told l.initial.folder) l.initial.entries l.entries (g.F.Folder.told l.folder);
  open_tails : g.F.Folder.open_tails l.folder ≡ g.F.Folder.open_tails l.initial.folder;
  faults : g.F.Folder.faults l.initial.folder ≤ g.F.Folder.faults l.folder;
}
