use Rattle.std.proofs.Common.{◌∙◌}
use Rattle.beat_config.specs.Input.{identity_at}
use Rattle.beat_config.specs.Input.{identity_in, identity_value_findings}
use Rattle.beat_config.proofs.Chain.{then}
use Rattle.beat_config.proofs.noted.Noted.identity_values.Goals as goal

pub returns-clause-value : goal.returns-clause-value
unfolding identity_in
returns-clause-value c = c.identity_at.ensures ∙ (λ i. identity_at (c.in_ok-place.ensures.value i) (c.in_ok-offset.ensures.value i) (c.in_ok-length.ensures.value i))

pub returns-clause-findings : goal.returns-clause-findings
unfolding identity_value_findings
returns-clause-findings c = then _ _ _ _ _ c.in_ok-place.ensures.findings (then _ _ _ _ _ c.in_ok-offset.ensures.findings c.in_ok-length.ensures.findings)
