use Rattle.std.proofs.Common.{◌≡◌, take}
use Rattle.file_progress.specs.Totals.{count_in}
use Rattle.file_progress.proofs.totals.count_in.Given as goal

abbrev pub invariant-loop-one : goal.invariant-loop-one
invariant-loop-one l = l.count ≡ count_in l.state (take l.one-index l.files)
