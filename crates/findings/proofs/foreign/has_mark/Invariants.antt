use Rattle.std.proofs.Common.{◌≡◌, length}
use Rattle.findings.specs.Globs.{has_mark}
use Rattle.findings.proofs.foreign.has_mark.Given as goal

abbrev pub invariant-places : goal.invariant-places
invariant-places l = has_mark l.left ≡ has_mark l.text

abbrev pub decreases-places : goal.decreases-places
decreases-places l = length l.left
