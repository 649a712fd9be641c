use Rattle.std.proofs.Common.{arith}
use Rattle.processors_core.proofs.Doing.{grown}
use Rattle.processors_core.proofs.chain.Chain.new.Goals as goal

pub loop-rule-preserved : goal.loop-rule-preserved
loop-rule-preserved c = record {
  number_is = omega (arith, c.loop-rule.invariant.number_is);
  done = grown c.args.rules.now c.loop-rule.rule-index _ c.loop-rule.processors.items _ c.in_ok-of.field-0 c.loop-rule.number c.loop-rule-test.true c.rule-item.is
      c.loop-rule.invariant.done c.loop-rule.invariant.number_is c.in_ok-of.ensures c.in_ok-push.ensures.items;
}
