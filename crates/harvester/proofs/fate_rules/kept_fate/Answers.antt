use Rattle.std.proofs.Common.{◌≡◌, ℕ, List, [], Option, ◌∙◌, sym, ap, subst}
use Rattle.event_json.specs.Envelope.{envelope_of}
use Rattle.event_json.specs.Payload.{payload_of_event}
use Rattle.event_tree.specs.declared.processor_rule.ProcessorRule.{ProcessorRule}
use Rattle.processors_core.specs.Outcome.{outcome_of}
use Rattle.processors_core.specs.declared.chain.Chain.{Chain}
use Rattle.told_events.specs.Fate.{fate_of_outcome, fate_of_payload}
use Rattle.harvester.specs.Deciding.{ChainRuns}
use Rattle.harvester.proofs.fate_rules.kept_fate.Goals as goal

pub returns-in_ok-event_payload_at-in-None-clause-fate : goal.returns-in_ok-event_payload_at-in-None-clause-fate
unfolding payload_of_event
returns-in_ok-event_payload_at-in-None-clause-fate c = λ processors runs.
    let tree = envelope_of c.args.path.now c.args.group.now.span.start c.args.group.now.message c.args.stamp.now in
    let none : processors ≡ [] = subst (λ (o : Option Chain). ChainRuns processors o) c.in-None.is runs in
    let path = c.args.path.now in
    let start = c.args.group.now.span.start in
    let last : fate_of_payload (payload_of_event path start c.args.group.now.message c.args.stamp.now) ≡ fate_of_outcome (outcome_of processors tree) =
    ap (λ (l : List ProcessorRule). fate_of_outcome (outcome_of l tree)) (sym none) in
    c.payload_fate.ensures ∙ ap fate_of_payload c.in_ok-event_payload_at-in-None.ensures.of_event
    ∙ ap (λ (n : ℕ). fate_of_payload (payload_of_event path n c.bytes-message.result.now c.args.stamp.now)) c.start-start.ensures.start
    ∙ ap (λ (m : List ℕ). fate_of_payload (payload_of_event path start m c.args.stamp.now)) c.bytes-message.ensures ∙ last
