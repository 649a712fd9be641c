use Rattle.event_tree.specs.declared.group_rule.GroupRule.TheVariants.{Count}
use Rattle.beat_config.specs.Multiline.{count_in, count_value_findings}
use Rattle.beat_config.proofs.Chain.{then}
use Rattle.beat_config.proofs.noted.Noted.count_values.Goals as goal

pub returns-clause-value : goal.returns-clause-value
unfolding count_in
returns-clause-value c = λ i.
    Count (c.in_ok-count_lines.ensures.value i) (c.in_ok-max_lines.ensures.value i) (c.in_ok-timeout.ensures.value i)
    (c.in_ok-skip_newline.ensures.value i) c.args.message_max_bytes

pub returns-clause-findings : goal.returns-clause-findings
unfolding count_value_findings
returns-clause-findings c =
    then _ _ _ _ _ c.in_ok-_kind.ensures.findings (then _ _ _ _ _ c.in_ok-count_lines.ensures.findings (then _ _ _ _ _ c.in_ok-max_lines.ensures.findings
    (then _ _ _ _ _ c.in_ok-timeout.ensures.findings c.in_ok-skip_newline.ensures.findings)))
