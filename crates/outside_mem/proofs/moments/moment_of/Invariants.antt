use Rattle.std.proofs.Common.{◌≡◌, drop}
use Rattle.outside_mem.specs.Moments.{moment_from, moment_of}
use Rattle.outside_mem.proofs.moments.moment_of.Given as goal

abbrev pub invariant-loop-one : goal.invariant-loop-one
invariant-loop-one l = moment_from l.moment (drop l.one-index l.told) l.path ≡ moment_of l.told l.path
