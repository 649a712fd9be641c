use Rattle.std.proofs.Common.{◌∙◌, ap, [], unwrap_or}
use Rattle.event_tree.specs.declared.group_rule.GroupRule.TheVariants.{Pattern}
use Rattle.beat_config.specs.Multiline.{side_at}
use Rattle.beat_config.specs.Multiline.{pattern_in, pattern_value_findings}
use Rattle.beat_config.proofs.Chain.{then}
use Rattle.beat_config.proofs.noted.Noted.pattern_values.Goals as goal

pub returns-clause-value : goal.returns-clause-value
unfolding pattern_in
returns-clause-value c =
    let pattern = c.or_empty.ensures ∙ ap (λ text. unwrap_or text []) c.in_ok-pattern.ensures.value in
    let side = c.side_at.ensures ∙ ap side_at c.in_ok-side.ensures.value in
    λ i. Pattern (pattern i) (c.in_ok-negate.ensures.value i) (side i) (c.in_ok-flush_pattern.ensures.value i)
    (c.in_ok-max_lines.ensures.value i) (c.in_ok-timeout.ensures.value i) (c.in_ok-skip_newline.ensures.value i) c.args.message_max_bytes

pub returns-clause-findings : goal.returns-clause-findings
unfolding pattern_value_findings
returns-clause-findings c =
    then _ _ _ _ _ c.in_ok-_kind.ensures.findings (then _ _ _ _ _ c.in_ok-pattern.ensures.findings (then _ _ _ _ _ c.in_ok-negate.ensures.findings
    (then _ _ _ _ _ c.in_ok-side.ensures.findings (then _ _ _ _ _ c.in_ok-flush_pattern.ensures.findings (then _ _ _ _ _ c.in_ok-max_lines.ensures.findings
    (then _ _ _ _ _ c.in_ok-timeout.ensures.findings c.in_ok-skip_newline.ensures.findings))))))
