use Rattle.std.proofs.Common.{◌≡◌, map, take}
use Rattle.report.proofs.text.in_order.Given as goal

abbrev pub invariant-loop-passing : goal.invariant-loop-passing
invariant-loop-passing l = map (λ passing. passing.now) l.ordered.items ≡ take l.passing-index l.passed
