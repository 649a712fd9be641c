use Rattle.std.proofs.Common.{◌≡◌, length}
use denote.Text.{Utf8}
use denote.Shadow.{shadow}
use Rattle.glob_paths.specs.Sign.{signs}
use Rattle.glob_paths.specs.Fault.{is_closed}
use Rattle.glob_paths.proofs.fault.is_closed.Given as goal

abbrev pub invariant-loop-sign : goal.invariant-loop-sign
invariant-loop-sign l = shadow (Utf8 l.rest) × (is_closed (signs l.rest) ≡ is_closed (signs l.body))

abbrev pub decreases-loop-sign : goal.decreases-loop-sign
decreases-loop-sign l = length l.rest
