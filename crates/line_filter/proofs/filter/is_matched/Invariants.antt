use Rattle.std.proofs.Common.{◌≡◌, false, take}
use Rattle.std.specs.List.{list_any}
use Rattle.patterns.specs.Matching.{matches}
use Rattle.line_filter.proofs.filter.is_matched.Given as goal

-- no pattern so far matches, and all are as they were
abbrev pub invariant-loop-pattern : goal.invariant-loop-pattern
invariant-loop-pattern l = record {
  same : l.patterns ≡ l.initial.patterns;
  none : list_any (λ pattern. matches pattern l.message) (take l.pattern-index l.initial.patterns) ≡ false;
}
