use Rattle.std.proofs.Common.{◌≡◌, ◌++◌, take, map}
use Rattle.file_progress.specs.Progress.{as_small}
use Rattle.file_progress.proofs.joining.put_small.Given as goal

abbrev pub invariant-loop-one : goal.invariant-loop-one
invariant-loop-one l = l.told.items ≡ l.initial.told.items ++ map as_small (take l.one-index l.small)
