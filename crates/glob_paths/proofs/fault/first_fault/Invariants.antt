use Rattle.std.proofs.Common.{◌≡◌, ◌+◌, false, length}
use denote.Text.{Utf8}
use denote.Shadow.{shadow}
use Rattle.wire_base.specs.Path.{parts_of}
use Rattle.glob_paths.specs.Fault.{parts_fault}
use Rattle.glob_paths.proofs.fault.first_fault.Given as goal

abbrev pub invariant-loop-fault : goal.invariant-loop-fault
invariant-loop-fault l =
    shadow (Utf8 l.rest) × (parts_fault l.seen l.at (parts_of l.rest) ≡ parts_fault false l.start (parts_of l.text))
    × (l.at + length l.rest ≡ l.start + length l.text)

abbrev pub decreases-loop-fault : goal.decreases-loop-fault
decreases-loop-fault l = length l.rest
