use Rattle.beat_config.specs.Processors.{value_findings}
use Rattle.beat_config.proofs.Chain.{then}
use Rattle.beat_config.proofs.noted.Noted.add_tags.Goals as goal

pub returns-clause-findings : goal.returns-clause-findings
unfolding value_findings
returns-clause-findings c = then _ _ _ _ _ c.in_ok-tags.ensures.findings c.in_ok-target.ensures.findings
