use Rattle.std.proofs.Common.{◌≡◌, filter, map, take}
use Rattle.findings.specs.Page.{is_kind}
use Rattle.findings.proofs.page.of_kind.Given as goal

abbrev pub invariant-loop-one : goal.invariant-loop-one
invariant-loop-one l = map (λ one. one.now) l.of.items ≡ filter (is_kind l.kind) (take l.one-index l.found)
