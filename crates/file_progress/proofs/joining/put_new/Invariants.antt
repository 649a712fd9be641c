use Rattle.std.proofs.Common.{◌≡◌, ◌++◌, take, flat_map}
use Rattle.file_progress.specs.Progress.{as_new}
use Rattle.file_progress.proofs.joining.put_new.Given as goal

abbrev pub invariant-loop-one : goal.invariant-loop-one
invariant-loop-one l = l.told.items ≡ l.initial.told.items ++ flat_map (as_new l.rows) (take l.one-index l.files)
