use Rattle.beat_config.specs.Processors.{value_findings}
use Rattle.beat_config.proofs.Chain.{then}
use Rattle.beat_config.proofs.noted.Noted.drop_fields.Goals as goal

pub returns-clause-findings : goal.returns-clause-findings
unfolding value_findings
returns-clause-findings c = then _ _ _ _ _ c.in_ok-fields.ensures.findings c.in_ok-ignore_missing.ensures.findings
