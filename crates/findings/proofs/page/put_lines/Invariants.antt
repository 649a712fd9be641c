use Rattle.std.proofs.Common.{◌≡◌, ◌++◌, flat_map, map, take}
use Rattle.findings.specs.Texts.{finding_line}
use Rattle.findings.proofs.page.put_lines.Given as goal

abbrev pub invariant-loop-one : goal.invariant-loop-one
invariant-loop-one l = l.page.items ≡ l.initial.page.items ++ flat_map finding_line (map (λ one. one.now) (take l.one-index l.of))
