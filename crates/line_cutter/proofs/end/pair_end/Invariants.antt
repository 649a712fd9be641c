use Rattle.std.proofs.Common.{◌≡◌, ◌≤◌, ◌-◌, true, length}
use Rattle.memchr.specs.Find.{Nowhere}
use Rattle.event_tree.specs.declared.line_rule.Terminator.TheVariants.{CarriageReturnLineFeed}
use Rattle.line_cutter.specs.Ends.{is_end}
use Rattle.line_cutter.proofs.end.pair_end.Given as goal

abbrev pub invariant-loop-found : goal.invariant-loop-found
invariant-loop-found l = (l.from ≤ length l.bytes) × Nowhere (λ place. is_end CarriageReturnLineFeed l.after_return l.bytes place ≡ true) 0 l.from

abbrev pub decreases-loop-found : goal.decreases-loop-found
decreases-loop-found l = length l.bytes - l.from
