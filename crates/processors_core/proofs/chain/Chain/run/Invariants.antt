use Rattle.std.proofs.Common.{◌≡◌, List, drop}
use Rattle.event_tree.specs.Tree.{value_of}
use Rattle.event_tree.specs.declared.processor_rule.ProcessorRule.{ProcessorRule}
use Rattle.processors_core.specs.Numbered.{by_rule}
use Rattle.processors_core.specs.Outcome.{outcome_from, outcome_of}
use Rattle.processors_core.specs.Runs.{AreDone, Runs}
use Rattle.processors_core.proofs.chain.Chain.run.Given as goal

-- the processors still do their rules, and those that are left make of this tree what all make of the first one
abbrev pub invariant-loop-processor : goal.invariant-loop-processor
invariant-loop-processor l = record {
  same : (rules : List ProcessorRule) → Runs rules l.fn.self → AreDone 10 rules l.processor-items;
  so_far : (rules : List ProcessorRule) → Runs rules l.fn.self →
      by_rule (outcome_from l.processor-index (drop l.processor-index rules) (value_of l.left)) ≡ by_rule (outcome_of rules (value_of l.fn.tree));
}
