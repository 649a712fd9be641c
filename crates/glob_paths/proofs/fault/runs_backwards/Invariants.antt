use Rattle.std.proofs.Common.{◌≡◌, length}
use denote.Text.{Utf8}
use denote.Shadow.{shadow}
use Rattle.glob_paths.specs.Sign.{signs}
use Rattle.glob_paths.specs.Token.{items_of}
use Rattle.glob_paths.specs.Fault.{some_backwards}
use Rattle.glob_paths.proofs.fault.runs_backwards.Given as goal

abbrev pub invariant-loop-low : goal.invariant-loop-low
invariant-loop-low l = shadow (Utf8 l.rest) × (some_backwards (items_of (signs l.rest)) ≡ some_backwards (items_of (signs l.items)))

abbrev pub decreases-loop-low : goal.decreases-loop-low
decreases-loop-low l = length l.rest
