use Rattle.std.proofs.Common.{[], refl, sym, subst, arith}
use Rattle.event_tree.specs.declared.group_rule.GroupRule.{GroupRule}
use Rattle.event_tree.specs.declared.line_rule.LineRule.{LineRule}
use Rattle.line_cutter.specs.Cutting.{HasCut}
use Rattle.multiline_core.specs.Gathering.{Gathers}
use Rattle.harvester.proofs.events.Events.new.Goals as goal

pub returns-clause-gathered : goal.returns-clause-gathered
returns-clause-gathered c = λ rules lines events. record {
  lines = sym lines;
  cut = record {
    cut = subst (λ (r : LineRule). HasCut r c.args.start [] [] c.new.result) (sym lines) c.new.ensures.made;
    adjoin = tt;
    within = omega (arith, c.new.ensures.place);
  };
  gathers = subst (λ (r : GroupRule). Gathers r [] c.args.now c.in_ok-new.field-0) (sym events) (c.in_ok-new.ensures.gathers c.args.now);
  closed = refl;
}
