use Rattle.std.proofs.Common.{◌≡◌, ◌++◌, map, take}
use Rattle.findings.specs.Globs.{glob_of}
use Rattle.findings.proofs.globs.add_globs.Given as goal

abbrev pub invariant-loop-text : goal.invariant-loop-text
invariant-loop-text l = l.globs.items ≡ l.initial.globs.items ++ map (glob_of l.number l.input) (take l.text-index l.text-items)
