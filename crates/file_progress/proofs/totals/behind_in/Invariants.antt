use Rattle.std.proofs.Common.{◌≡◌, take}
use Rattle.file_progress.specs.Totals.{behind_in}
use Rattle.file_progress.proofs.totals.behind_in.Given as goal

abbrev pub invariant-loop-one : goal.invariant-loop-one
invariant-loop-one l = l.total ≡ behind_in (take l.one-index l.files)
