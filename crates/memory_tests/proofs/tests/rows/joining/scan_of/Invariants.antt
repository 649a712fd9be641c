use Rattle.std.proofs.Common.{All}
use Rattle.prospector_core.specs.KnownFiles.{IsSeen}
use Rattle.memory_tests.proofs.tests.rows.joining.scan_of.Given as goal

-- the files so far are members of a scan
abbrev pub invariant-loop-key : goal.invariant-loop-key
invariant-loop-key g l = All IsSeen l.scan.items
