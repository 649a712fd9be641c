use Rattle.std.proofs.Common.{◌≡◌, ◌+◌, false, length}
use denote.Text.{Utf8}
use denote.Shadow.{shadow}
use Rattle.glob_paths.specs.Sign.{signs}
use Rattle.glob_paths.specs.Fault.{signs_fault}
use Rattle.glob_paths.proofs.fault.fault_of_signs.Given as goal

abbrev pub invariant-loop-sign : goal.invariant-loop-sign
invariant-loop-sign l =
    shadow (Utf8 l.rest) × (signs_fault l.inside l.at (signs l.rest) ≡ signs_fault false l.start (signs l.part))
    × (l.at + length l.rest ≡ l.start + length l.part)

abbrev pub decreases-loop-sign : goal.decreases-loop-sign
decreases-loop-sign l = length l.rest
