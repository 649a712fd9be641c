use Rattle.std.proofs.Common.{◌≡◌, drop, true}
use Rattle.outside_mem.proofs.Paths.{named}
use Rattle.outside_mem.proofs.below.are_names.Given as goal

abbrev pub invariant-loop-byte : goal.invariant-loop-byte
invariant-loop-byte l = named l.is_empty l.left (drop l.byte-index l.names) ≡ named true l.depth l.names
