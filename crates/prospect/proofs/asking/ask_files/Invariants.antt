use Rattle.std.proofs.Common.{◌≡◌, ◌-◌, ◌<◌, ◌≤◌, ◌^◌, IfSome}
use Rattle.prospect.specs.AskedFiles.{AsksFiles, KeepsFiles}
use Rattle.prospect.proofs.asking.ask_files.Given as goal

abbrev pub invariant-loop-one : goal.invariant-loop-one
invariant-loop-one g l = record {
  asks : IfSome (g.F.Folder.told l.initial.folder) (λ told. AsksFiles l.inputs told l.yielded l.keyed (g.F.Folder.told l.folder));
  keeps : KeepsFiles l.inputs l.yielded l.keyed.files.items;
  open_tails : g.F.Folder.open_tails l.initial.folder < 2 ^ 64 - 1 → g.F.Folder.open_tails l.folder ≡ g.F.Folder.open_tails l.initial.folder;
  faults : g.F.Folder.faults l.initial.folder ≤ g.F.Folder.faults l.folder;
}
