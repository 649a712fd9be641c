use Rattle.std.proofs.Common.{◌≤◌, take}
use Rattle.findings.specs.Counting.{Counts}
use Rattle.findings.proofs.counting.count_of.Given as goal

abbrev pub invariant-loop-one : goal.invariant-loop-one
invariant-loop-one l = record { few : l.count ≤ l.one-index; counts : Counts l.asked (take l.one-index l.listed) l.count }
