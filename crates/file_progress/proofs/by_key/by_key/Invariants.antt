use Rattle.std.proofs.Common.{◌≡◌, ℕ, List}
use Rattle.std.specs.BTreeMap.{get}
use Rattle.wire_base.specs.KeyOrder.{compare}
use Rattle.file_progress.specs.Progress.{file_of}
use Rattle.file_progress.proofs.by_key.by_key.Given as goal

abbrev pub invariant-loop-one : goal.invariant-loop-one
invariant-loop-one l = (key : List ℕ) → get compare l.found key ≡ file_of l.yielded key
