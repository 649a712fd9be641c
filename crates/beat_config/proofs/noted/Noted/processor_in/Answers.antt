use Rattle.beat_config.specs.Processors.{IsProcessorIn, processor_value_findings}
use Rattle.beat_config.proofs.Chain.{then}
use Rattle.beat_config.proofs.noted.Noted.processor_in.Goals as goal

pub returns-clause-value : goal.returns-clause-value
unfolding IsProcessorIn
returns-clause-value c = (c.in_ok-when.when, c.in_ok-when.ensures.value, c.in_ok-rule.ensures.value)

pub returns-clause-findings : goal.returns-clause-findings
unfolding processor_value_findings
returns-clause-findings c = then _ _ _ _ _ c.in_ok-when.ensures.findings c.in_ok-rule.ensures.findings
