use Rattle.std.proofs.Common.{◌≡◌, map}
use Rattle.outside_mem.specs.Scripts.{told_file}
use Rattle.outside_mem.specs.Tracking.{files_of}
use Rattle.outside_mem.proofs.folder.track.Given as goal

abbrev pub invariant-loop-file : goal.invariant-loop-file
invariant-loop-file l = files_of l.tracked.items ≡ map told_file l.yielded
