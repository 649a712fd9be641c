use Rattle.beat_config.specs.Document.{document_findings}
use Rattle.beat_config.proofs.Chain.{then}
use Rattle.beat_config.proofs.noted.Noted.document.Goals as goal

pub returns-clause-findings : goal.returns-clause-findings
unfolding document_findings
returns-clause-findings c =
    then _ _ _ _ _ c.in_ok-check_keys.ensures (then _ _ _ _ _ c.in_ok-inputs.ensures.findings
    (then _ _ _ _ _ c.in_ok-output.ensures.findings (then _ _ _ _ _ c.in_ok-processors.ensures.findings
    (then _ _ _ _ _ c.in_ok-events.ensures.findings c.in_ok-lanes.ensures.findings))))
