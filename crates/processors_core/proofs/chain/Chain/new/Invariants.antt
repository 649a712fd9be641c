use Rattle.std.proofs.Common.{◌≡◌, ◌+◌, take}
use Rattle.processors_core.specs.Runs.{AreDone}
use Rattle.processors_core.proofs.chain.Chain.new.Given as goal

abbrev pub invariant-loop-rule : goal.invariant-loop-rule
invariant-loop-rule l = record {
  number_is : l.number ≡ 10 + l.rule-index;
  done : AreDone 10 (take l.rule-index l.rules) l.processors.items;
}
