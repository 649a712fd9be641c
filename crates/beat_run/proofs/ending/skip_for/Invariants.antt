use Rattle.std.proofs.Common.{◌≡◌, ◌++◌, map, take}
use Rattle.beat_run.specs.Skipped.{skipped_for}
use Rattle.beat_run.proofs.ending.skip_for.Given as goal

-- the paths of the files so far stand behind the others
abbrev pub invariant-loop-one : goal.invariant-loop-one
invariant-loop-one l = l.passed.items ≡ l.initial.passed.items ++ map (skipped_for l.why) (take l.one-index l.files)
