use Rattle.std.proofs.Common.{ap, ◌∙◌}
use Rattle.told_events.specs.Fate.{DroppedBy, ShippedAs}
use Rattle.harvester.specs.Deciding.{shown}
use Rattle.harvester.specs.Held.{Held}
use Rattle.harvester.proofs.Standings.{on_err}
use Rattle.harvester.proofs.TellsGiven.{payload_fits, same_told, told_one}
use Rattle.harvester.proofs.harvester.Harvester.tell.Goals as goal

pub returns-in_err-fate-clause-same_on_refusal : goal.returns-in_err-fate-clause-same_on_refusal
returns-in_err-fate-clause-same_on_refusal g c = λ h has.
    on_err c.from_residual.result _ (same_told g.T.Tail.numbers g.T.Tail.told h _ has c.fate.new.rules c.fate.ensures.decides)

pub returns-in-Shipped-clause-told : goal.returns-in-Shipped-clause-told
returns-in-Shipped-clause-told g c = λ h has.
    told_one g.T.Tail.numbers g.T.Tail.told h _ has c.fate.new.rules c.fate.ensures.decides c.pass.new.self c.args.now.0 c.in_ok-fate.fate c.in_ok-fate.span
    c.requires.closed c.in_ok-fate.ensures.by_the_rules c.in_ok-fate.ensures.span (λ event. c.pass.ensures.told h event has.held) (ShippedAs c.in-Shipped.payload)
    (ap shown c.in-Shipped.is)

pub returns-in-Shipped-clause-of_file : goal.returns-in-Shipped-clause-of_file
returns-in-Shipped-clause-of_file g c = λ rules decides. (
  c.slot.ensures ∙ ap (λ (held : Held). held.begin.slot) c.pass.ensures.others,
  c.epoch.ensures ∙ ap (λ (held : Held). held.epoch) c.pass.ensures.others,
  record {
    payload = payload_fits c.args.self.now.reader.events.closed c.requires.closed c.args.self.now.rules _ c.args.now.0 (c.in_ok-fate.fate, c.in_ok-fate.span)
        c.in-Shipped.payload (ap shown c.in-Shipped.is) rules decides c.in_ok-fate.ensures.by_the_rules;
    span = c.in_ok-fate.ensures.in_range;
  },
)

pub returns-in-Dropped-clause-told : goal.returns-in-Dropped-clause-told
returns-in-Dropped-clause-told g c = λ h has.
    told_one g.T.Tail.numbers g.T.Tail.told h _ has c.fate.new.rules c.fate.ensures.decides c.pass.new.self c.args.now.0 c.in_ok-fate.fate c.in_ok-fate.span
    c.requires.closed c.in_ok-fate.ensures.by_the_rules c.in_ok-fate.ensures.span (λ event. c.pass.ensures.told h event has.held) (DroppedBy c.in-Dropped.rule.0)
    (ap shown c.in-Dropped.is)
