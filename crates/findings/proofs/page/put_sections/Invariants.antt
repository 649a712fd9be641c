use Rattle.std.proofs.Common.{◌≡◌, ◌++◌, flat_map, take}
use Rattle.findings.specs.Page.{section}
use Rattle.findings.proofs.page.put_sections.Given as goal

abbrev pub invariant-loop-kind : goal.invariant-loop-kind
invariant-loop-kind l = l.page.items ≡ l.initial.page.items ++ flat_map (section l.found) (take l.kind-index l.kinds)
