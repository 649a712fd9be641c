use Rattle.std.proofs.Common.{◌∙◌}
use Rattle.beat_config.specs.Output.{output_in, output_value_findings}
use Rattle.beat_config.proofs.Chain.{then}
use Rattle.beat_config.proofs.noted.Noted.output_values.Goals as goal

pub returns-clause-value : goal.returns-clause-value
unfolding output_in
returns-clause-value c = λ i. record {
  hosts = (c.from_vec.ensures ∙ c.in_ok-hosts.ensures.value) i;
  workers = c.in_ok-workers.ensures.value i;
  bulk_max_size = c.in_ok-bulk_max_size.ensures.value i;
  pipelining = c.in_ok-pipelining.ensures.value i;
  timeout = c.in_ok-timeout.ensures.value i;
  attempts = c.in_ok-attempts.ensures.value i;
}

pub returns-clause-findings : goal.returns-clause-findings
unfolding output_value_findings
returns-clause-findings c =
    then _ _ _ _ _ c.in_ok-hosts.ensures.findings (then _ _ _ _ _ c.in_ok-workers.ensures.findings (then _ _ _ _ _ c.in_ok-bulk_max_size.ensures.findings
    (then _ _ _ _ _ c.in_ok-pipelining.ensures.findings (then _ _ _ _ _ c.in_ok-timeout.ensures.findings c.in_ok-attempts.ensures.findings))))
