-- The rules that a chain runs: each processor does the rule of its place, and drops by rule 10 and its number.
use Rattle.std.specs.Prelude.{ℕ, ◌+◌, List, [], ◌∷◌}
use Rattle.event_tree.specs.declared.processor_rule.ProcessorRule.{ProcessorRule}
use Rattle.processors_core.specs.Made.{Does}
use Rattle.processors_core.specs.declared.chain.Chain.{Chain}
use Rattle.processors_core.specs.declared.processor.Processor.{Processor}

abbrev pub AreDone : ℕ → List ProcessorRule → List Processor → Type 0
AreDone number [] [] = Unit {0}
AreDone number [] (processor ∷ processors) = ⊥
AreDone number (rule ∷ rules) [] = ⊥
AreDone number (rule ∷ rules) (processor ∷ processors) = Does number rule processor × AreDone (number + 1) rules processors

abbrev pub Runs : List ProcessorRule → Chain → Type 0
Runs rules chain = AreDone 10 rules chain.processors.items
