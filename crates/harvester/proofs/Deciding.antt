-- What the compiled rules decide.
use Rattle.std.proofs.Common.{◌≡◌, ℕ, List, Option, Some, None, Result, Ok, Err, IfOk, ap, ◌∙◌}
use Rattle.event_json.specs.Envelope.{envelope_of}
use Rattle.event_tree.specs.declared.processor_rule.ProcessorRule.{ProcessorRule}
use Rattle.line_filter.specs.Verdict.{verdict_of}
use Rattle.processors_core.specs.Outcome.{outcome_of}
use Rattle.told_events.specs.Fate.{Fate, DroppedBy, fate_of, fate_of_outcome, fate_of_verdict}
use Rattle.told_events.specs.Rules.{Rules}
use Rattle.wire_base.specs.declared.memory.NoMemory.{NoMemory}
use Rattle.harvester.specs.declared.fate_rules.EventFate.{EventFate}
use Rattle.harvester.specs.declared.fate_rules.FateRules.{FateRules}
use Rattle.harvester.specs.Deciding.{ChainRuns, Decides, shown}

module _ (compiled : FateRules) (path : List ℕ) (start : ℕ) (message : List ℕ) (now : ℕ) where
  abbrev by_verdict : Rules → Option ℕ → Fate
  by_verdict rules verdict = fate_of_verdict verdict (fate_of_outcome (outcome_of rules.processors (envelope_of path start message now)))

  same_verdict : (rules : Rules) → Decides rules compiled → verdict_of compiled.filter.include compiled.filter.exclude message ≡ verdict_of rules.include rules.exclude message
  same_verdict rules decides =
      ap (λ (l : List (List ℕ)). verdict_of l compiled.filter.exclude message) decides.include
      ∙ ap (λ (l : List (List ℕ)). verdict_of rules.include l message) decides.exclude

  pub dropped : (rule : ℕ) → Some rule ≡ verdict_of compiled.filter.include compiled.filter.exclude message → (rules : Rules) → Decides rules compiled →
      DroppedBy rule ≡ fate_of rules path start message now
  unfolding fate_of
  dropped rule verdict rules decides = ap (λ (v : Option ℕ). by_verdict rules v) (verdict ∙ same_verdict rules decides)

  pub kept : (r : Result EventFate NoMemory) → None ≡ verdict_of compiled.filter.include compiled.filter.exclude message →
      IfOk r (λ fate. (processors : List ProcessorRule) → ChainRuns processors compiled.chain →
      shown fate ≡ fate_of_outcome (outcome_of processors (envelope_of path start message now))) →
      IfOk r (λ fate. (rules : Rules) → Decides rules compiled → shown fate ≡ fate_of rules path start message now)
  unfolding fate_of
  kept (Ok fate) verdict is = λ rules decides.
      is rules.processors decides.chain ∙ ap (λ (v : Option ℕ). by_verdict rules v) (verdict ∙ same_verdict rules decides)
  kept (Err error) verdict is = tt
