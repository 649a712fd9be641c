use Rattle.std.proofs.Common.{◌≡◌, Some, take, All}
use Rattle.outside_mem.specs.Tracking.{path_of}
use Rattle.outside_mem.proofs.tracked.find.Given as goal

abbrev pub invariant-loop-number : goal.invariant-loop-number
invariant-loop-number l = All (λ one. ¬ (path_of l.listings one ≡ Some l.path)) (take l.number l.files)
