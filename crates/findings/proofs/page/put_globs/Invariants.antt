use Rattle.std.proofs.Common.{◌≡◌, ◌++◌, flat_map, take}
use Rattle.findings.specs.Texts.{glob_line}
use Rattle.findings.proofs.page.put_globs.Given as goal

abbrev pub invariant-loop-one : goal.invariant-loop-one
invariant-loop-one l = l.page.items ≡ l.initial.page.items ++ flat_map glob_line (take l.one-index l.globs)
