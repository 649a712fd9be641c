use Rattle.prospect.specs.Members.{AreGlobs}
use Rattle.names_tests.proofs.tests.scans.globs.Given as goal

abbrev pub invariant-loop-chars : goal.invariant-loop-chars
invariant-loop-chars l = AreGlobs l.globs.items
