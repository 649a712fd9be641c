use Rattle.std.proofs.Common.{◌≡◌, ◌-◌, ◌<◌, ◌≤◌, ◌^◌, [], IfSome, None}
use Rattle.prospect.specs.AskedFiles.{KeepsFiles}
use Rattle.prospect.specs.PastFaults.{TriesFiles}
use Rattle.prospect.specs.Trying.{FailMoreOnlyByFaults}
use Rattle.prospect.proofs.askings.ask_past_faults.Given as goal

abbrev pub invariant-loop-one : goal.invariant-loop-one
invariant-loop-one g l = record {
  tries : IfSome (g.F.Folder.told l.initial.folder) (λ told. TriesFiles l.inputs told l.yielded l.askings (g.F.Folder.told l.folder));
  keeps : KeepsFiles l.inputs l.yielded l.askings.keyed.files.items;
  failed : FailMoreOnlyByFaults [] l.askings.failed.items (g.F.Folder.faults l.initial.folder) (g.F.Folder.faults l.folder);
  untold : g.F.Folder.told l.initial.folder ≡ None → g.F.Folder.told l.folder ≡ None;
  open_tails : g.F.Folder.open_tails l.initial.folder < 2 ^ 64 - 1 → g.F.Folder.open_tails l.folder ≡ g.F.Folder.open_tails l.initial.folder;
  faults : g.F.Folder.faults l.initial.folder ≤ g.F.Folder.faults l.folder;
}
