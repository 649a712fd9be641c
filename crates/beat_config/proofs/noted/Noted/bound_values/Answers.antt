use Rattle.beat_config.specs.Pairs.{bounds_at, bound_value_findings}
use Rattle.beat_config.proofs.Chain.{then}
use Rattle.beat_config.proofs.noted.Noted.bound_values.Goals as goal

pub returns-clause-value : goal.returns-clause-value
unfolding bounds_at
returns-clause-value c = λ i. record {
  path = c.args.path;
  lt = c.in_ok-lt.ensures.value i;
  lte = c.in_ok-lte.ensures.value i;
  gt = c.in_ok-gt.ensures.value i;
  gte = c.in_ok-gte.ensures.value i;
}

pub returns-clause-findings : goal.returns-clause-findings
unfolding bound_value_findings
returns-clause-findings c =
    then _ _ _ _ _ c.in_ok-lt.ensures.findings (then _ _ _ _ _ c.in_ok-lte.ensures.findings
    (then _ _ _ _ _ c.in_ok-gt.ensures.findings c.in_ok-gte.ensures.findings))
